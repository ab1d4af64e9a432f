use Rattle.std.proofs.Common.{◌≡◌, ◌∙◌, ap, Bool, true, false, Option, Some, List, ℕ, codes}
use Rattle.clap.specs.Words.{found_of, one_of, rows_of}
use Rattle.clap.specs.Values.{bool_text}
use Rattle.clap.proofs.WalkLemmas.{one_text-rows}
use Rattle.akl_args.specs.Asked.{flag_in}
use Rattle.akl_args.proofs.asked.flag_in.Goals as goal

flag_read : (b : Bool) (text : Option (List ℕ)) (r : Bool) → text ≡ Some (bool_text b) → (text ≡ Some (codes "true") → r ≡ true)
    → (text ≡ Some (codes "false") → r ≡ false) → r ≡ b
flag_read true text r is given other = given is
flag_read false text r is given other = other is

pub returns : goal.returns
returns c =
    let found = found_of c.args.matches.now in
    flag_read (flag_in c.args.flag (rows_of found)) _ c.get_flag.result
    (one_text-rows found c.id.result.now ∙ ap (λ (id : List ℕ). one_of id (rows_of found)) c.id.ensures ∙ c.requires c.args.flag) c.get_flag.ensures.value c.get_flag.ensures.other
