-- All that a report says of its command.
use Rattle.akl_run.specs.Commands.{Command, IsReported}
use Rattle.akl_run.proofs.Explained.{Ended, stops, nothing_written, wrote_run, wrote_part, ran_out, read_fault, unrefused}
use Rattle.akl_run.proofs.Exact.{words_end, program_ends, query_ends, complete}

pub reported : (c : Command) → Ended c → IsReported c
reported c k = record {
  outcome = wrote_run c k;
  write_fault = λ d. (wrote_part c k d).1;
  written_part = λ d. (wrote_part c k d).0;
  no_memory = ran_out c k;
  nothing = nothing_written c k;
  stops = stops c k;
  read_fault = read_fault c k;
  words = words_end c k;
  program = program_ends c k;
  query = query_ends c k;
  complete = complete c k;
  refusal = unrefused c k;
}
