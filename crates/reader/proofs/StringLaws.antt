-- Strings in the module's bytes: a count, and as many bytes that are well-formed UTF-8. Assumes nothing.
use Rattle.definitions.specs.Bytes.{text}
use Rattle.definitions.specs.Utf8.{is_utf8}
use Rattle.definitions.proofs.Begins.{Takes, takes-checked, takes-text}
use Rattle.reader.specs.View.{string}

pub takes-string : Takes string
takes-string = takes-checked is_utf8 text takes-text
