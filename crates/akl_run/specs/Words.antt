-- What the words of a command ask for.
use Rattle.std.specs.Prelude.{ℕ, List, map, Option, Some, None, String, string_bytes}
use Rattle.akl_args.specs.declared.options.Job.{Job}
use Rattle.akl_args.specs.declared.options.Job.TheVariants.{Query, Generate}
use Rattle.akl_args.specs.declared.options.Options.{Options}
use Rattle.akl_gen.specs.Generated.{lists, query_text}

-- the bytes of each word
abbrev pub bytes_of : {A : Type 0} → List (String A) → List (List ℕ)
bytes_of words = map (λ word. string_bytes word) words

-- the query that is run: the one that is given, or the one that is made from the number
abbrev pub query_in : Job → List ℕ
query_in (Query text) = text
query_in (Generate number) = query_text number

abbrev pub query_of : Options → List ℕ
query_of o = query_in o.job

-- the program that is made, where it isn't read from the source
abbrev pub program_in : Job → Option (List ℕ)
program_in (Query text) = None
program_in (Generate number) = Some lists

abbrev pub program_of : Options → Option (List ℕ)
program_of o = program_in o.job
