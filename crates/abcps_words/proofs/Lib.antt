mod Prefixes
mod Flags
mod Alone
