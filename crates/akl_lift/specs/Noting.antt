-- What one walk notes of each choice and each collecting goal. No public clause speaks of it.
use Rattle.std.specs.Prelude.{◌≡◌, ℕ, List, [], ◌∷◌, ◌++◌, map}
use Rattle.std.specs.List.{concat}
use Rattle.std.proofs.Common.{drop}
use Rattle.term_syntax.specs.Tree.{Tree}
use Rattle.term_syntax.specs.Variables.{tree_variables, trees_variables}
use Rattle.akl_syntax.specs.Goals.{Goal, Goals, Parts, call, choice, lifted, collect, lifted_collect, no_goals, more_goals, no_parts, more_parts}
use Rattle.akl_lift.specs.Lifting.{seen_from}
use Rattle.akl_lift.specs.declared.noting.Inside.{Inside}

-- each of the variables once, by first occurrence
abbrev pub distinct : List ℕ → List ℕ
distinct vs = seen_from [] vs

-- the variables of goals, where those inside of a choice or a collecting goal count once
abbrev mutual
  pub outer : Goal → List ℕ
  outer (call s ts) = trees_variables ts
  outer (choice ps) = distinct (concat (outer_parts ps))
  outer (lifted n ns) = ns
  outer (collect t gs r) = distinct (concat ((tree_variables t ++ outer_all gs) ∷ [])) ++ tree_variables r
  outer (lifted_collect n ns r) = ns ++ tree_variables r

  pub outer_all : Goals → List ℕ
  outer_all no_goals = []
  outer_all (more_goals g gs) = outer g ++ outer_all gs

  -- those of each part
  pub outer_parts : Parts → List (List ℕ)
  outer_parts no_parts = []
  outer_parts (more_parts gs op hs ps) = (outer_all gs ++ outer_all hs) ∷ outer_parts ps

-- those inside of a collecting goal, which is noted as a choice of one part
abbrev pub outer_collected : Tree → Goals → List (List ℕ)
outer_collected t gs = (tree_variables t ++ outer_all gs) ∷ []

-- the variables of a choice, each once, and those of each of its parts
pub record Noted : Type 0 where
  pub variables : List ℕ
  pub parts : List (List ℕ)

-- of a choice whose parts have these variables
abbrev pub noted_of : List (List ℕ) → Noted
noted_of lists = record { variables = distinct (concat lists); parts = lists }

-- what is noted of the choices and the collecting goals in goals, in the order of their opening brackets
abbrev mutual
  pub insides : Goal → List Noted
  insides (call s ts) = []
  insides (choice ps) = noted_of (outer_parts ps) ∷ insides_parts ps
  insides (lifted n ns) = []
  insides (collect t gs r) = noted_of (outer_collected t gs) ∷ insides_all gs
  insides (lifted_collect n ns r) = []

  pub insides_all : Goals → List Noted
  insides_all no_goals = []
  insides_all (more_goals g gs) = insides g ++ insides_all gs

  pub insides_parts : Parts → List Noted
  insides_parts no_parts = []
  insides_parts (more_parts gs op hs ps) = (insides_all gs ++ insides_all hs) ++ insides_parts ps

abbrev pub inside_view : Inside → Noted
inside_view x = record { variables = x.variables.items; parts = map (λ v. v.items) x.parts.items }

-- from this place on, these are noted
pub record HasNoted (noted : List Inside) (at : ℕ) (these : List Noted) : Type 0 where
  pub rest : List Noted
  pub are : drop at (map inside_view noted) ≡ these ++ rest
