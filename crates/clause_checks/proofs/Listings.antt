-- How the listing grows with the clauses.
use Rattle.std.proofs.Common.{◌≡◌, List, [], ◌∷◌, ◌++◌, map, refl, sym, ap, subst, ◌∙◌, append_assoc, append-nil}
use Rattle.std.proofs.lemmas.List.{map_push}
use Rattle.akl_syntax.specs.Goals.{Part}
use Rattle.akl_syntax.specs.Clauses.{Clause}
use Rattle.akl_syntax.proofs.PartTurns.{part_is}
use Rattle.akl_syntax.specs.GoalView.{goal}
use Rattle.akl_syntax.specs.Answers.{clause_view}
use Rattle.akl_syntax.specs.declared.source.SourceClause.{SourceClause}
use Rattle.clause_keys.specs.declared.callee.Callee.{Callee}
use Rattle.clause_checks.specs.declared.tally.Tally.{Tally}
use Rattle.clause_checks.specs.declared.listed.Listed.{Listed}
use Rattle.clause_checks.specs.declared.listed.Listing.{Listing}
use Rattle.clause_checks.specs.Tallies.{clause_of, IsListed, AreListed, nothing, next, Lists}
use Rattle.clause_checks.specs.Within.{goals_in}
use Rattle.clause_checks.proofs.Tallying.{AreTallied, Continues, tallied_start, tallied_next}

pub op_is : (c : SourceClause) → (clause_view c).part.op ≡ c.part.op
op_is c = ap (λ (p : Part). p.op) (part_is c.part)

listed_more : {before : List Clause} {xs : List Listed} (x : Listed) → AreListed before xs → IsListed (before ++ map clause_of xs) x → AreListed before (xs ++ x ∷ [])
listed_more {before} x nothing l = next (rw (← append-nil before) l) nothing
listed_more {before} x (next {x = y} {xs = ys} h hs) l = next h (listed_more x hs (rw append_assoc l))

pub record IsListing (cs : List Clause) (callees : List Callee) (tallies : List Tally) (xs : List Listed) : Type 0 where
  pub tallied : AreTallied cs callees tallies
  pub same : map clause_of xs ≡ cs
  pub listed : AreListed [] xs

pub listing_start : IsListing [] [] [] []
listing_start = record { tallied = tallied_start; same = refl; listed = nothing }

pub listing_next : {cs : List Clause} {callees more : List Callee} {tallies new : List Tally} {xs : List Listed} → IsListing cs callees tallies xs → (x : Listed) → Continues cs (clause_of x) more new x.before
    → map (λ g. goal g.now) x.goals.items ≡ goals_in (clause_of x) → IsListing (cs ++ clause_of x ∷ []) more new (xs ++ x ∷ [])
listing_next {cs} {xs = xs} h x k g = record {
  tallied = k.tallied;
  same = map_push clause_of xs x ∙ ap (λ ds. ds ++ clause_of x ∷ []) h.same;
  listed = listed_more x h.listed (rw h.same (record { goals = g; tally = k.counts }));
}

pub listing_grows : {cs : List Clause} {c : Clause} {old new : Listing} → IsListing cs old.callees old.tallies.items old.clauses.items → Lists c old new → IsListing (cs ++ c ∷ []) new.callees new.tallies.items new.clauses.items
listing_grows {cs} {c} {old} {new} h g =
    let k : Continues cs c new.callees new.tallies.items g.entry.before = tallied_next cs c h.tallied g.callees g.tally refl in
    let l = listing_next h g.entry (subst (λ (d : Clause). Continues cs d new.callees new.tallies.items g.entry.before) (sym g.clause) k) g.goals in
    let m = subst (λ (d : Clause). IsListing (cs ++ d ∷ []) new.callees new.tallies.items (old.clauses.items ++ g.entry ∷ [])) g.clause l in
    subst (λ (xs : List Listed). IsListing (cs ++ c ∷ []) new.callees new.tallies.items xs) (sym g.clauses) m
