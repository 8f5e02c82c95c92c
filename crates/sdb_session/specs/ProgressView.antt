-- The view of what a session has done with a message.
use Rattle.std.specs.Prelude.{Bool, true, Option, Some, None, Result, Ok, Err}
use Rattle.sdb_session.specs.Listing.{PlainListing}
use Rattle.sdb_session.specs.ListingView.{plain_listing}
use Rattle.sdb_session.specs.declared.session.Progress.{Progress}
use Rattle.sdb_session.specs.declared.session.Progress.TheVariants.{Done, Listing}

-- whether the message is a request, which one that is answered by a listing is
abbrev pub is_request_of : Progress → Bool
is_request_of (Done is_request) = is_request
is_request_of (Listing l) = true

-- the listing that is left, if any
abbrev pub progress_result : {E : Type 0} → Result Progress E → Result (Option PlainListing) E
progress_result (Ok (Done is_request)) = Ok None
progress_result (Ok (Listing l)) = Ok (Some (plain_listing l))
progress_result (Err e) = Err e
