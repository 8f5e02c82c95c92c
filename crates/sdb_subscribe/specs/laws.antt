pub mod QueueLaws
