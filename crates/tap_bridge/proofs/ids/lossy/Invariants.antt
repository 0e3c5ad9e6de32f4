use Rattle.std.proofs.Common.{◌≡◌, ◌++◌, map, encode_utf8_all}
use Rattle.std.specs.String.{string_bytes}
use Rattle.tap_bridge.specs.Ids.{without_nul}
use Rattle.tap_bridge.proofs.ids.lossy.Given as goal

abbrev pub invariant-loop-char : goal.invariant-loop-char
invariant-loop-char l = string_bytes l.text ++ encode_utf8_all (map without_nul l.char-iterator) ≡ encode_utf8_all (map without_nul l.initial.char-iterator)
