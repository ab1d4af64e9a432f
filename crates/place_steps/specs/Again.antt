-- A label that is made once more.
use Rattle.std.specs.Prelude.{◌≡◌, Bool, true, false, [], ◌∷◌, ◌++◌}
use Rattle.akl_model.specs.declared.label.Rule.{Rule}
use Rattle.akl_model.specs.declared.label.Label.{Label}
use Rattle.box_tree.specs.Plans.{PlanValue}
use Rattle.step_commit.specs.Cores.{CoreValue, KeepsFixed}
use Rattle.place_steps.specs.declared.next.Next.{Next}

-- a core went on by the labels of a plan
pub record IsCommitted (c : CoreValue) (p : PlanValue) (d : CoreValue) : Type 0 where
  pub fixed : KeepsFixed c d
  pub journal : d.journal ≡ c.journal ++ p.label ∷ p.more

-- where they were made; else it is as it was
abbrev pub IsCommittedIf : CoreValue → PlanValue → CoreValue → Bool → Type 0
IsCommittedIf c p d true = IsCommitted c p d
IsCommittedIf c p d false = d ≡ c

-- what comes next is a plan whose label has the same alternative
abbrev pub MayBe : Label → Next → Type 0
MayBe l (Next.Plan p) = p.label.alternative ≡ l.alternative
MayBe l (Next.Idle i) = ⊥

-- a core went on by one label, of the same place, alternative and worker; its rule is one that applied there
pub record IsMade (c : CoreValue) (l : Label) (d : CoreValue) : Type 0 where
  pub fixed : KeepsFixed c d
  pub rule : Rule
  pub journal : d.journal ≡ c.journal ++ record { rule = rule; place = l.place; alternative = l.alternative; worker = l.worker } ∷ []

-- where it was made; else it is as it was
abbrev pub IsMadeIf : CoreValue → Label → CoreValue → Bool → Type 0
IsMadeIf c l d true = IsMade c l d
IsMadeIf c l d false = d ≡ c
