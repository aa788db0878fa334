mod Comparing
mod Answering
