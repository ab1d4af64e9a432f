-- Labels one on top of another.
use Rattle.std.proofs.Common.{◌≡◌, ℕ, List, [], ◌∷◌, refl, sym, subst}
use Rattle.std.specs.Prelude.{slice_index}
use Rattle.akl_terms.specs.declared.program.Program.{Program}
use Rattle.akl_model.specs.declared.label.Rule.{Rule}
use Rattle.akl_model.specs.declared.label.Label.{Label}
use Rattle.akl_model.specs.Config.{Config}
use Rattle.akl_model.specs.Names.{HasDistinctNames}
use Rattle.akl_model.specs.Derivations.{Applies, Derives}
use Rattle.akl_model.proofs.NamesKept.{stands_after}
use Rattle.plan_laws.specs.Right.{Reads, IsRightOn}
use Rattle.plan_laws.specs.Wherever.{Follows, IsAsIn, Meets, AreRightOn}
use Rattle.plan_laws.specs.Lists.{LeadsOn}
use Rattle.plan_laws.proofs.Between.{stand_of, distinct_of}
use Rattle.plan_laws.proofs.ByContents.{right_wherever, next_after}

pub distinct_after : (rules : List Rule) (p : Program) (c : Config) (l : Label) (e : Config) → Applies rules p c l e → HasDistinctNames c → HasDistinctNames e
distinct_after rules p c l e a h = distinct_of e (stands_after rules p c l e (stand_of c h) a)

pub lists : (rules : List Rule) (p : Program) (c : Config) (ls : List Label) (e : Config) (w : Derives rules p c ls e) (d : Config) → HasDistinctNames c → LeadsOn rules p c ls e w d → AreRightOn rules p c ls e w d
lists rules p c [] e w d h x = tt
lists rules p c (l ∷ ls) e w d h x =
    let r : IsRightOn w.1 d = right_wherever rules p c l w.0 w.1 h d x.0 in
    (r, lists rules p w.0 ls e w.2 r.result (distinct_after rules p c l w.0 w.1 h) (x.1 r))

pub derives_on : (rules : List Rule) (p : Program) (c : Config) (ls : List Label) (e : Config) (w : Derives rules p c ls e) (d : Config) → AreRightOn rules p c ls e w d → (f : Config) × Derives rules p d ls f
derives_on rules p c [] e w d x = (d, refl)
derives_on rules p c (l ∷ ls) e w d x =
    let y : (f : Config) × Derives rules p x.0.result ls f = derives_on rules p w.0 ls e w.2 x.0.result x.1 in
    (y.0, (x.0.result, x.0.applies, y.1))

pub on_top : (rules : List Rule) (p : Program) (c : Config) (l : Label) (e : Config) (a : Applies rules p c l e) (m : Label) (h : Config) (b : Applies rules p e m h) → HasDistinctNames c → m.worker ≡ l.worker
    → (d : Config) → Meets a d → ((r : IsRightOn a d) → Follows e r.result × Reads (IsAsIn e r.result) m.rule m.place m.alternative b.site)
    → AreRightOn rules p c (l ∷ m ∷ []) h (e, a, (h, b, (λ i. h))) d
on_top rules p c l e a m h b once worker d x y = lists rules p c (l ∷ m ∷ []) h (e, a, (h, b, (λ i. h))) d once (
  x,
  λ r. (
    record {
      follows = (y r).0;
      next = subst (λ (v : ℕ). slice_index r.result.next v ≡ slice_index e.next v) (sym worker) (next_after rules p c l e a d x.next r);
      reads = (y r).1;
    },
    λ q. tt,
  ),
)
