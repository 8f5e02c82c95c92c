pub mod SoundData
