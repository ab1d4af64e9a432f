use Rattle.std.proofs.Common.{◌≡◌, ℕ, ◌<◌, List, length, Some, sym, subst, arith}
use Rattle.par_workers.specs.Tokens.{IsTakenFrom}
use Rattle.par_workers.proofs.Entries.{tokens_in, same_count, entry_out}
use Rattle.par_workers.proofs.lying.Lying.take_out.Goals as goal

pub returns : goal.returns
returns c =
    let es = c.self.inside.entries.items in
    let count : length (tokens_in es) ≡ length es = same_count es in
    let less : c.args.index < length (tokens_in es) = subst (λ (ts : List ℕ). c.args.index < length ts) (sym c.self.view_is) c.requires in
    let below : c.args.index < length es = omega (arith, less, count) in
    subst (λ (ts : List ℕ). IsTakenFrom ts (Some c.remove.result.token) (tokens_in c.remove.new.self.items)) c.self.view_is
    (entry_out es c.remove.new.self.items c.args.index c.remove.result below c.remove.ensures.value c.remove.ensures.items)
