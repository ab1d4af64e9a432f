-- What has been lifted, and what is left.
use Rattle.std.proofs.Common.{◌≡◌, ℕ, ◌+◌, List, [], ◌∷◌, ◌++◌, length, refl, ◌∙◌, arith, append_assoc, length-append}
use Rattle.akl_terms.specs.declared.program.Op.{Op}
use Rattle.akl_syntax.specs.Goals.{Goal, Goals, Parts, call, choice, lifted, collect, lifted_collect, no_goals, more_goals, no_parts, more_parts}
use Rattle.akl_syntax.specs.Clauses.{Clause}
use Rattle.akl_syntax.specs.Variables.{parts_variables}
use Rattle.akl_lift.specs.Lifting.{Origin, choices_in, choices_in_all, choices_in_parts, without, without_all, part_clause, part_clauses, part_shares, collect_variables, collect_shares, made, made_all, made_inside, made_in_part}
use Rattle.akl_lift.specs.Noting.{insides, insides_all, insides_parts, HasNoted}
use Rattle.akl_lift.specs.declared.noting.Inside.{Inside}
use Rattle.akl_lift.proofs.Notes.{length-insides, length-insides_all, noted_back}

-- ---- there is a definition for each choice and each collecting goal
mutual
  pub length-made : (w : Origin) (shares : List ℕ → List ℕ) (next : ℕ) (g : Goal) → length (made w shares next g) ≡ choices_in g
  length-made w shares next (call s ts) = refl
  length-made w shares next (choice ps) = omega (arith, length-made_inside w (shares (parts_variables ps)) (next + 1) ps)
  length-made w shares next (lifted n ns) = refl
  length-made w shares next (collect t gs r) = omega (arith, length-made_all w (collect_shares (shares (collect_variables t gs)) t gs) (next + 1) gs)
  length-made w shares next (lifted_collect n ns r) = refl

  pub length-made_all : (w : Origin) (shares : List ℕ → List ℕ) (next : ℕ) (gs : Goals) → length (made_all w shares next gs) ≡ choices_in_all gs
  length-made_all w shares next no_goals = refl
  length-made_all w shares next (more_goals g gs) =
      omega (arith, length-append (made w shares next g) (made_all w shares (next + choices_in g) gs), length-made w shares next g, length-made_all w shares (next + choices_in g) gs)

  pub length-made_inside : (w : Origin) (args : List ℕ) (next : ℕ) (ps : Parts) → length (made_inside w args next ps) ≡ choices_in_parts ps
  length-made_inside w args next no_parts = refl
  length-made_inside w args next (more_parts gs op hs ps) =
      omega (
        arith,
        length-append (made_in_part w args next gs hs) (made_inside w args (next + (choices_in_all gs + choices_in_all hs)) ps),
        length-append (made_all w (part_shares args gs hs) next gs) (made_all w (part_shares args gs hs) (next + choices_in_all gs) hs),
        length-made_all w (part_shares args gs hs) next gs,
        length-made_all w (part_shares args gs hs) (next + choices_in_all gs) hs,
        length-made_inside w args (next + (choices_in_all gs + choices_in_all hs)) ps,
      )

pub length-made_in_part : (w : Origin) (args : List ℕ) (next : ℕ) (gs hs : Goals) → length (made_in_part w args next gs hs) ≡ choices_in_all gs + choices_in_all hs
length-made_in_part w args next gs hs =
    omega (
      arith,
      length-append (made_all w (part_shares args gs hs) next gs) (made_all w (part_shares args gs hs) (next + choices_in_all gs) hs),
      length-made_all w (part_shares args gs hs) next gs,
      length-made_all w (part_shares args gs hs) (next + choices_in_all gs) hs,
    )

-- ---- goals
pub record GoalsSoFar (w : Origin) (noted : List Inside) (order : List ℕ) (shares : List ℕ → List ℕ) (first : ℕ) (before : List (List Clause)) (gs : Goals) (next : ℕ) (found : List Goal) (after : List (List Clause)) (rest : Goals) : Type 0 where
  pub next_is : next + choices_in_all rest ≡ first + choices_in_all gs
  pub found_are : found ++ without_all order shares next rest ≡ without_all order shares first gs
  pub made_are : after ++ made_all w shares next rest ≡ before ++ made_all w shares first gs
  pub noted_are : HasNoted noted (length after) (insides_all rest)

pub goals_start : {w : Origin} {noted : List Inside} {order : List ℕ} {shares : List ℕ → List ℕ} {first : ℕ} {before : List (List Clause)} {gs : Goals} → HasNoted noted (length before) (insides_all gs)
    → GoalsSoFar w noted order shares first before gs first [] before gs
goals_start n = record { next_is = refl; found_are = refl; made_are = refl; noted_are = n }

pub goals_step : {w : Origin} {noted : List Inside} {order : List ℕ} {shares : List ℕ → List ℕ} {first next next' : ℕ} {before after after' : List (List Clause)} {gs rest : Goals} {found : List Goal} (g h : Goal)
    → GoalsSoFar w noted order shares first before gs next found after (more_goals g rest) → next' ≡ next + choices_in g → h ≡ without order shares next g → after' ≡ after ++ made w shares next g
    → GoalsSoFar w noted order shares first before gs next' (found ++ h ∷ []) after' rest
goals_step {w} {order = order} {shares = shares} {next = next} {after = after} {rest = rest} {found = found} g h s e f m = rw (e, f, m) (record {
  next_is = omega (arith, s.next_is);
  found_are = append_assoc found (without order shares next g ∷ []) (without_all order shares (next + choices_in g) rest) ∙ s.found_are;
  made_are = append_assoc after (made w shares next g) (made_all w shares (next + choices_in g) rest) ∙ s.made_are;
  noted_are = noted_back (insides g) (insides_all rest) (omega (arith, length-append after (made w shares next g), length-made w shares next g, length-insides g)) s.noted_are;
})

-- ---- parts
pub record PartsSoFar (w : Origin) (noted : List Inside) (number : ℕ) (args : List ℕ) (first : ℕ) (before : List (List Clause)) (ps : Parts) (next : ℕ) (own : List Clause) (after : List (List Clause)) (rest : Parts) : Type 0 where
  pub next_is : next + choices_in_parts rest ≡ first + choices_in_parts ps
  pub own_are : own ++ part_clauses w number args next rest ≡ part_clauses w number args first ps
  pub made_are : after ++ made_inside w args next rest ≡ before ++ made_inside w args first ps
  pub noted_are : HasNoted noted (length after) (insides_parts rest)

pub parts_start : {w : Origin} {noted : List Inside} {number : ℕ} {args : List ℕ} {first : ℕ} {before : List (List Clause)} {ps : Parts} → HasNoted noted (length before) (insides_parts ps)
    → PartsSoFar w noted number args first before ps first [] before ps
parts_start n = record { next_is = refl; own_are = refl; made_are = refl; noted_are = n }

pub parts_step : {w : Origin} {noted : List Inside} {number : ℕ} {args : List ℕ} {first next next' : ℕ} {before after after' : List (List Clause)} {own : List Clause} {ps rest : Parts} (gs : Goals) (op : Op) (hs : Goals) (c : Clause)
    → PartsSoFar w noted number args first before ps next own after (more_parts gs op hs rest) → next' ≡ next + (choices_in_all gs + choices_in_all hs) → c ≡ part_clause w number args next gs op hs
    → after' ≡ after ++ made_in_part w args next gs hs → PartsSoFar w noted number args first before ps next' (own ++ c ∷ []) after' rest
parts_step {w} {number = number} {args = args} {next = next} {after = after} {own = own} {rest = rest} gs op hs c s e f m = rw (e, f, m) (record {
  next_is = omega (arith, s.next_is);
  own_are = append_assoc own (part_clause w number args next gs op hs ∷ []) (part_clauses w number args (next + (choices_in_all gs + choices_in_all hs)) rest) ∙ s.own_are;
  made_are = append_assoc after (made_in_part w args next gs hs) (made_inside w args (next + (choices_in_all gs + choices_in_all hs)) rest) ∙ s.made_are;
  noted_are = noted_back (insides_all gs ++ insides_all hs) (insides_parts rest) (omega (arith, length-append after (made_in_part w args next gs hs), length-made_in_part w args next gs hs, length-append (insides_all gs) (insides_all hs), length-insides_all gs, length-insides_all hs)) s.noted_are;
})
