use Rattle.std.proofs.Common.{◌≡◌, ◌<◌, ◌^◌, drop, fold}
use Rattle.std.specs.List.{list_all}
use Rattle.wb_language.specs.Words.{is_digit, with_digit}
use Rattle.wb_lines.proofs.words.digits_of.Given as goal

abbrev pub invariant-loop-byte : goal.invariant-loop-byte
invariant-loop-byte l = record {
  bound : l.value < 10 ^ l.byte-index;
  digits : list_all is_digit (drop l.byte-index l.word) ≡ list_all is_digit l.word;
  number : fold with_digit l.value (drop l.byte-index l.word) ≡ fold with_digit 0 l.word;
}
