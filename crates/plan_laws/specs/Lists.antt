-- Lists of labels that are right by contents, one on top of another.
use Rattle.std.specs.Prelude.{◌≡◌, List, [], ◌∷◌, ⊤}
use Rattle.akl_terms.specs.declared.program.Program.{Program}
use Rattle.akl_model.specs.declared.label.Rule.{Rule}
use Rattle.akl_model.specs.declared.label.Label.{Label}
use Rattle.akl_model.specs.Config.{Config}
use Rattle.akl_model.specs.Names.{HasDistinctNames}
use Rattle.akl_model.specs.Derivations.{Applies, Derives}
use Rattle.plan_laws.specs.Right.{Reads, IsRightOn}
use Rattle.plan_laws.specs.Wherever.{Follows, IsAsIn, Meets, AreRightOn}

-- each label of a list finds what it has to find, on what the earlier ones made
abbrev pub LeadsOn : (rules : List Rule) (p : Program) (c : Config) (ls : List Label) (e : Config) → Derives rules p c ls e → Config → Type 0
LeadsOn rules p c [] e w d = ⊤
LeadsOn rules p c (l ∷ ls) e w d = Meets w.1 d × ((r : IsRightOn w.1 d) → LeadsOn rules p w.0 ls e w.2 r.result)

-- then the list is right
abbrev pub ListLaw : Type 0
ListLaw = (rules : List Rule) (p : Program) (c : Config) (ls : List Label) (e : Config) (w : Derives rules p c ls e) (d : Config) → HasDistinctNames c → LeadsOn rules p c ls e w d → AreRightOn rules p c ls e w d

-- and makes a derivation
abbrev pub DerivesOnLaw : Type 0
DerivesOnLaw = (rules : List Rule) (p : Program) (c : Config) (ls : List Label) (e : Config) (w : Derives rules p c ls e) (d : Config) → AreRightOn rules p c ls e w d → (f : Config) × Derives rules p d ls f

-- a label, and another of its worker that was planned on its result: the other has only to find its boxes and what it reads, since the next number is right
abbrev pub OnTopLaw : Type 0
OnTopLaw = (rules : List Rule) (p : Program) (c : Config) (l : Label) (e : Config) (a : Applies rules p c l e) (m : Label) (h : Config) (b : Applies rules p e m h) → HasDistinctNames c → m.worker ≡ l.worker
    → (d : Config) → Meets a d → ((r : IsRightOn a d) → Follows e r.result × Reads (IsAsIn e r.result) m.rule m.place m.alternative b.site)
    → AreRightOn rules p c (l ∷ m ∷ []) h (e, a, (h, b, (λ i. h))) d
