use Rattle.std.proofs.Common.{length, ap, refl, arith}
use Rattle.std.proofs.lemmas.List.{length-map}
use Rattle.akl_syntax.specs.Answers.{clause_view}
use Rattle.clause_store.proofs.Loads.{program_put, program_unique, definitions_few, nothing_unique}
use Rattle.clause_store.proofs.Fitting.{program_fits}
use Rattle.clause_store.proofs.Collecting.{may_collect, program_collects}
use Rattle.clause_store.proofs.program.load.Goals as goal

pub returns-clause-program : goal.returns-clause-program
returns-clause-program c =
    program_put _ c.new-callees.ensures c.new-definitions.ensures.items c.in_ok-cell.ensures c.in_ok-extend.ensures c.new.ensures refl c.in_order.ensures.arranged c.in_order.ensures.distinct

pub returns-clause-unique : goal.returns-clause-unique
returns-clause-unique c = program_unique _ (nothing_unique _ c.new-callees.ensures) c.in_ok-extend.ensures c.new.ensures

pub returns-clause-definitions : goal.returns-clause-definitions
returns-clause-definitions c = omega (arith, definitions_few _ c.in_ok-extend.ensures c.new.ensures, ap length c.new-callees.ensures, length-map c.args.clauses.items clause_view)

pub returns-clause-calls : goal.returns-clause-calls
returns-clause-calls c =
    program_fits _ _ (program_put _ c.new-callees.ensures c.new-definitions.ensures.items c.in_ok-cell.ensures c.in_ok-extend.ensures c.new.ensures refl c.in_order.ensures.arranged c.in_order.ensures.distinct)

pub returns-clause-collecting : goal.returns-clause-collecting
returns-clause-collecting c =
    program_collects _ _ (program_put _ c.new-callees.ensures c.new-definitions.ensures.items c.in_ok-cell.ensures c.in_ok-extend.ensures c.new.ensures refl c.in_order.ensures.arranged c.in_order.ensures.distinct) c.requires.alone
    (may_collect _ _ c.requires.loadable)
