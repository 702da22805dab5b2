mod More
mod Sizes
