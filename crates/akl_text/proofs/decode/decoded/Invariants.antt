use Rattle.std.proofs.Common.{◌≡◌, ◌++◌, length, drop, false}
use Rattle.std.specs.Prelude.{string_bytes, encode_utf8_all}
use Rattle.std.specs.Str.{chars}
use Rattle.akl_text.specs.Computed.{decode}
use Rattle.akl_text.proofs.decode.decoded.Given as goal

abbrev pub invariant-loop-c : goal.invariant-loop-c
invariant-loop-c l = string_bytes l.text ++ encode_utf8_all (decode l.escaped (drop (length l.yielded) (chars l.inner))) ≡ encode_utf8_all (decode false (chars l.inner))
