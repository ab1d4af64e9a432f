-- What a plan of one label makes is one label of the same place, alternative and worker.
use Rattle.std.proofs.Common.{◌≡◌, ℕ, Bool, Result, Ok, Err, IfOk, OnErr, true, false, List, [], ◌∷◌, ◌++◌, ◌<◌, length, Option, refl, ◌∙◌, ap, subst, inl, inr, arith}
use Rattle.akl_terms.specs.declared.name.Name.{Name}
use Rattle.akl_terms.specs.declared.name.Place.{Place}
use Rattle.akl_model.specs.declared.label.Label.{Label}
use Rattle.box_tree.specs.Plans.{PlanValue}
use Rattle.step_commit.specs.Cores.{CoreValue}
use Rattle.place_steps.specs.declared.next.Next.{Next}
use Rattle.place_steps.specs.Next.{HasRoom}
use Rattle.place_steps.specs.Again.{IsCommittedIf, IsMadeIf}

none_left : (ls : List Label) → length ls < 1 → ls ≡ []
none_left [] few = refl
none_left (l ∷ ls) few = absurd (omega arith)

-- a plan for which there is room for one label has one
pub alone : (p : PlanValue) → HasRoom 1 (Next.Plan p) → p.more ≡ []
alone p room = elim room [
  | inl none ↦ none
  | inr few ↦ none_left p.more few
]

with_parts : (x : Label) (place : Place) (alternative : Option Name) (worker : ℕ) → x.place ≡ place → x.alternative ≡ alternative → x.worker ≡ worker
    → x ≡ record { rule = x.rule; place = place; alternative = alternative; worker = worker }
with_parts x place alternative worker p a w =
    subst (λ (z : Place). x ≡ record { rule = x.rule; place = z; alternative = alternative; worker = worker }) p
    (subst (λ (z : Option Name). x ≡ record { rule = x.rule; place = x.place; alternative = z; worker = worker }) a
    (subst (λ (z : ℕ). x ≡ record { rule = x.rule; place = x.place; alternative = x.alternative; worker = z }) w refl))

pub made_if : (c d : CoreValue) (l : Label) (p : PlanValue) (made : Bool) → p.more ≡ [] → p.label.place ≡ l.place → p.label.alternative ≡ l.alternative → p.label.worker ≡ l.worker
    → IsCommittedIf c p d made → IsMadeIf c l d made
made_if c d l p true none place alternative worker h = record {
  fixed = h.fixed;
  rule = p.label.rule;
  journal = h.journal ∙ ap (λ (ls : List Label). c.journal ++ p.label ∷ ls) none
      ∙ ap (λ (x : Label). c.journal ++ x ∷ []) (with_parts p.label l.place l.alternative l.worker place alternative worker);
}
made_if c d l p false none place alternative worker h = h

-- so it is of what a commit answers
pub made_ok : {E : Type 0} (c d : CoreValue) (l : Label) (p : PlanValue) (r : Result Bool E) → p.more ≡ [] → p.label.place ≡ l.place → p.label.alternative ≡ l.alternative → p.label.worker ≡ l.worker
    → IfOk r (IsCommittedIf c p d) → IfOk r (IsMadeIf c l d)
made_ok c d l p (Ok made) none place alternative worker h = made_if c d l p made none place alternative worker h
made_ok c d l p (Err e) none place alternative worker h = tt

-- whether a label is made or not, the program stays
pub same_program : {E : Type 0} (c d : CoreValue) (l : Label) (r : Result Bool E) → IfOk r (IsMadeIf c l d) → OnErr r (d ≡ c) → d.table.program ≡ c.table.program
same_program c d l (Ok true) made same = made.fixed.program
same_program c d l (Ok false) made same = ap (λ (x : CoreValue). x.table.program) made
same_program c d l (Err e) made same = ap (λ (x : CoreValue). x.table.program) same
