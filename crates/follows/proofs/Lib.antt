mod Made
mod Reading
mod Walking
mod Narrowing
mod Agreeing
