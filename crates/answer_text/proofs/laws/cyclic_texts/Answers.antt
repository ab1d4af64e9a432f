use Rattle.answer_text.proofs.CycleExamples.{two_cycles_text, cyclic_list_text}
use Rattle.answer_text.proofs.LoopGraph.{loop_worked_out}
use Rattle.answer_text.proofs.laws.cyclic_texts.Goals as goal

pub returns : goal.returns
returns c = record { two_cycles = two_cycles_text; cyclic_list = cyclic_list_text; loop_graph = loop_worked_out }
