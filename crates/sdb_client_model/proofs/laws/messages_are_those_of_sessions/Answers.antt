use Rattle.sdb_client_model.proofs.SessionAnswers.{submissions_are_answered_alike, subscriptions_are_answered_alike, entries_are_pumped_alike}
use Rattle.sdb_client_model.proofs.laws.messages_are_those_of_sessions.Goals as goal

pub returns-clause-submissions : goal.returns-clause-submissions
returns-clause-submissions c = submissions_are_answered_alike

pub returns-clause-subscriptions : goal.returns-clause-subscriptions
returns-clause-subscriptions c = subscriptions_are_answered_alike

pub returns-clause-entries : goal.returns-clause-entries
returns-clause-entries c = entries_are_pumped_alike
