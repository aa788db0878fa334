mod Stretches
mod Sifting
mod Seeking
mod Writing
mod Answering
