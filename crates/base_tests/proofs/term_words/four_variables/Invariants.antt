use Rattle.std.proofs.Common.{◌≡◌, ◌+◌, ◌<◌, length}
use Rattle.base_tests.proofs.term_words.four_variables.Given as goal

abbrev pub invariant-loop-first : goal.invariant-loop-first
invariant-loop-first l = record {
  nodes : length l.templates.nodes ≡ 4 + l.first;
  symbol : l.symbol < length l.templates.symbols;
  a : l.a < length l.templates.symbols;
  b : l.b < length l.templates.symbols;
}
