mod Adding
mod LostFrames
mod Marking
mod Opened
mod Reading
mod Statements
