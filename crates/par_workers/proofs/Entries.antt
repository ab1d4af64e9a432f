-- Tokens that lie with the run, each with its root box.
use Rattle.std.proofs.Common.{◌≡◌, ℕ, zero, suc, ◌<◌, List, [], ◌∷◌, length, get_or, Some, refl, sym, ap, ◌∙◌, arith}
use Rattle.std.proofs.lemmas.List.{length-map, get_or-map}
use Rattle.std.specs.Prelude.{map}
use Rattle.std.specs.List.{remove}
use Rattle.par_workers.specs.declared.lying.Entry.{Entry}
use Rattle.par_workers.specs.Tokens.{IsTakenFrom}
use Rattle.par_workers.proofs.TakenOut.{taken_out}

abbrev pub tokens_in : List Entry → List ℕ
tokens_in = map (λ e. e.token)

tokens_in-remove : (es : List Entry) (i : ℕ) → tokens_in (remove es i) ≡ remove (tokens_in es) i
tokens_in-remove [] zero = refl
tokens_in-remove [] (suc i) = refl
tokens_in-remove (e ∷ es) zero = refl
tokens_in-remove (e ∷ es) (suc i) = ap (λ (ts : List ℕ). e.token ∷ ts) (tokens_in-remove es i)

pub same_count : (es : List Entry) → length (tokens_in es) ≡ length es
same_count es = length-map es (λ (f : Entry). f.token)

-- an entry that is taken out
pub entry_out : (es fs : List Entry) (i : ℕ) (e : Entry) → i < length es → e ≡ get_or es i e → fs ≡ remove es i → IsTakenFrom (tokens_in es) (Some e.token) (tokens_in fs)
entry_out es fs i e less is now =
    let count : length (tokens_in es) ≡ length es = same_count es in
    let below : i < length (tokens_in es) = omega (arith, less, count) in
    taken_out (tokens_in es) (tokens_in fs) i e.token below (ap (λ (f : Entry). f.token) is ∙ sym (get_or-map (λ (f : Entry). f.token) es i e e.token less)) (ap tokens_in now ∙ tokens_in-remove es i)
