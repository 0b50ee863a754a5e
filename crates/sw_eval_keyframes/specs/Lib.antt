pub mod Keyframes
