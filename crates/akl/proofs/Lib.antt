pub mod Yielded
