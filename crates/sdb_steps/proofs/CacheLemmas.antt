-- Each cached snapshot is one of its log, also after a step.
use Rattle.std.proofs.Common.{◌≡◌, ℕ, [], length, unwrap_or, Result, Err, refl, sym, subst}
use Rattle.sdb_oplog.specs.Keys.{PlainKey, Logs}
use Rattle.sdb_oplog.specs.declared.codes.Code.{Code}
use Rattle.sdb_oplog.specs.declared.codes.Code.TheVariants.{E1, E2, E3, E4, E5, E6, E7, E8, E9, E10, E11}
use Rattle.sdb_desk.specs.Machine.{PlainFetchResult, version_at_moment}
use Rattle.sdb_desk.specs.ShardState.{CachesByKey, AreCachesOf}
use Rattle.sdb_desk.specs.laws.CachesLaws.{snaps_after_read, changed_cache, extended_caches}
use Rattle.sdb_submit.specs.Calls.{CachesAfterRead}
use Rattle.sdb_steps.specs.Caches.{CachesAfterAct, read_result}
use Rattle.sdb_steps.specs.OneStep.{OneStep}
use Rattle.sdb_steps.specs.Picks as plain
use Rattle.sdb_steps.specs.Picks.{SessionStates, StepKind, PlainSessionStep, PlainStepAnswer}
use Rattle.sdb_steps.specs.Runs.{IsStep}
use Rattle.sdb_steps.specs.View.{snapshot_refusal_answer}
use Rattle.sdb_steps.proofs.GrowthLemmas.{grows_step}

unchanged_caches : (logs : Logs) (old new : CachesByKey) → AreCachesOf logs old → new ≡ old → AreCachesOf logs new
unchanged_caches logs old new all is = subst (AreCachesOf logs) (sym is) all

read_cache : (logs : Logs) (k : PlainKey) (v : ℕ) (r : Result PlainFetchResult Code) (old new : CachesByKey) → AreCachesOf logs old → CachesAfterRead k logs v r old new → AreCachesOf logs new
read_cache logs k v r old new all h = changed_cache logs k (new k) old new all (snaps_after_read (logs k) v r (old k) (new k) (all k) h.0) h.1

caches_after_act : (logs : Logs) (act : StepKind) (answer : PlainStepAnswer) (old new : CachesByKey) → AreCachesOf logs old → CachesAfterAct logs act answer old new → AreCachesOf logs new
caches_after_act logs (plain.begin k src seq v content) answer old new all h = unchanged_caches logs old new all h
caches_after_act logs plain.work answer old new all h = unchanged_caches logs old new all h
caches_after_act logs (plain.commit now) answer old new all h = unchanged_caches logs old new all h
caches_after_act logs (plain.fetch k) answer old new all h = unchanged_caches logs old new all h
caches_after_act logs (plain.snapshot k v) answer old new all h = read_cache logs k (unwrap_or v (length (logs k))) (read_result answer) old new all h
caches_after_act logs (plain.snapshot_at_time k t) answer old new all h = read_cache logs k (version_at_moment (logs k) t) (read_result answer) old new all h
caches_after_act logs (plain.subscribe k v) answer old new all h = unchanged_caches logs old new all h
caches_after_act logs (plain.take k max) answer old new all h = unchanged_caches logs old new all h
caches_after_act logs (plain.unsubscribe k) answer old new all h = unchanged_caches logs old new all h
caches_after_act logs (plain.forget k) answer old new all h = changed_cache logs k [] old new all tt h

pub caches_after_step : (m n : OneStep) (w v : SessionStates) (s : PlainSessionStep) (a : PlainStepAnswer) (old new : CachesByKey) → IsStep m w s a n v → CachesAfterAct m.logs s.act a old new → AreCachesOf m.logs old → AreCachesOf n.logs new
caches_after_step m n w v s a old new step acts all =
    extended_caches m.logs n.logs new (λ k. let g = grows_step m n w v s a k step in (g.more, g.is)) (caches_after_act m.logs s.act a old new all acts)

-- the answer to a refused read has its code
pub refused_read : (code : Code) → read_result (snapshot_refusal_answer code) ≡ Err code
refused_read E1 = refl
refused_read E2 = refl
refused_read E3 = refl
refused_read E4 = refl
refused_read E5 = refl
refused_read E6 = refl
refused_read E7 = refl
refused_read E8 = refl
refused_read E9 = refl
refused_read E10 = refl
refused_read E11 = refl
