mod AddsLemmas
mod BetweenLemmas
mod RestoredItems
mod RestoreLemmas
