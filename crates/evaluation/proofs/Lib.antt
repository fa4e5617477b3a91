mod Weaving
mod Leading
mod Forward
mod Backward
mod Agreeing
