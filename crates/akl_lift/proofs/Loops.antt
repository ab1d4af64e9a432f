-- What loops over lists of written goals, parts and clauses have done.
use Rattle.std.proofs.Common.{◌≡◌, ℕ, zero, suc, ◌+◌, ◌<◌, ◌≤◌, Bool, List, [], ◌∷◌, ◌++◌, length, map, take, drop, set, get_or, sym, ap, ◌∙◌, arith}
use Rattle.std.specs.List.{filter}
use Rattle.std.proofs.lemmas.List.{append-nil, take_all, drop_all, drop_more, map_push, take_more_set, drop-set-lt}
use Rattle.std.proofs.lemmas.List.Elements.{filter-append}
use Rattle.akl_syntax.specs.Goals.{Goal, Goals, Parts, goals, parts}
use Rattle.akl_syntax.specs.Clauses.{Clause}
use Rattle.akl_syntax.specs.GoalView.{goal, part}
use Rattle.akl_syntax.specs.Answers.{clause_view}
use Rattle.akl_syntax.specs.declared.source.SourceGoal.{SourceGoal}
use Rattle.akl_syntax.specs.declared.source.SourcePart.{SourcePart}
use Rattle.akl_syntax.specs.declared.source.SourceClause.{SourceClause}
use Rattle.akl_lift.specs.Lifting.{Origin, choices_in, choices_in_all, choices_in_parts, clause_choices, choices_of, clause_without, clauses_without, made_of, made_of_all, joined, without, without_all, part_clause, part_clauses, made, made_all, made_inside, made_in_part, numbers_from}
use Rattle.akl_lift.specs.Noting.{insides, insides_all, insides_parts, HasNoted}
use Rattle.akl_lift.specs.declared.noting.Inside.{Inside}
use Rattle.akl_lift.proofs.FirstSeen.{one_dropped}
use Rattle.akl_lift.proofs.Slots.{lists_turn}
use Rattle.akl_lift.proofs.Notes.{goals_dropped, parts_dropped, insides_part, noted_front}
use Rattle.akl_lift.proofs.Turns.{GoalsSoFar, goals_step, PartsSoFar, parts_step}
use Rattle.akl_lift.proofs.Programs.{ClausesSoFar, clauses_step}

-- ---- goals
module _ {w : Origin} {noted : List Inside} {order : List ℕ} {shares : List ℕ → List ℕ} {first : ℕ} {before : List (List Clause)} {gs : Goals} where
  pub goals_turn : {next next' : ℕ} {after after' : List (List Clause)} (xs : List SourceGoal) (i : ℕ) (x y : SourceGoal) (found : List SourceGoal) → i < length xs → x ≡ get_or xs i x
      → GoalsSoFar w noted order shares first before gs next (map goal found) after (goals (map goal (drop i xs))) → next' ≡ next + choices_in (goal x) → goal y ≡ without order shares next (goal x) → after' ≡ after ++ made w shares next (goal x)
      → GoalsSoFar w noted order shares first before gs next' (map goal (found ++ y ∷ [])) after' (goals (map goal (drop (i + 1) xs)))
  goals_turn xs i x y found h e s a b m =
      let dropped = goals_dropped xs i x h e in
      rw (map_push goal found y) (goals_step (goal x) (goal y) (rw dropped at s) a b m)

  pub goals_room : {next : ℕ} {after : List (List Clause)} {found : List Goal} (xs : List SourceGoal) (i : ℕ) (x : SourceGoal) → i < length xs → x ≡ get_or xs i x
      → GoalsSoFar w noted order shares first before gs next found after (goals (map goal (drop i xs))) → next + choices_in (goal x) ≤ first + choices_in_all gs
  goals_room xs i x h e s =
      let dropped = goals_dropped xs i x h e in
      let t = rw dropped at s in
      omega (arith, t.next_is)

  pub goals_noted : {next : ℕ} {after : List (List Clause)} {found : List Goal} (xs : List SourceGoal) (i : ℕ) (x : SourceGoal) → i < length xs → x ≡ get_or xs i x
      → GoalsSoFar w noted order shares first before gs next found after (goals (map goal (drop i xs))) → HasNoted noted (length after) (insides (goal x))
  goals_noted xs i x h e s =
      let dropped = goals_dropped xs i x h e in
      let t = rw dropped at s in
      noted_front (insides (goal x)) (insides_all (goals (map goal (drop (i + 1) xs)))) t.noted_are

pub record GoalsDone (w : Origin) (order : List ℕ) (shares : List ℕ → List ℕ) (first : ℕ) (before : List (List Clause)) (gs : Goals) (next : ℕ) (found : List Goal) (after : List (List Clause)) : Type 0 where
  pub next_is : next ≡ first + choices_in_all gs
  pub found_are : found ≡ without_all order shares first gs
  pub made_are : after ≡ before ++ made_all w shares first gs

pub goals_done : {w : Origin} {noted : List Inside} {order : List ℕ} {shares : List ℕ → List ℕ} {first next : ℕ} {before after : List (List Clause)} {gs : Goals} {found : List Goal} (xs : List SourceGoal) (i : ℕ) → length xs ≤ i
    → GoalsSoFar w noted order shares first before gs next found after (goals (map goal (drop i xs))) → GoalsDone w order shares first before gs next found after
goals_done {after = after} {found = found} xs i h s =
    let dropped : drop i xs ≡ [] = drop_all i xs h in
    let t = rw dropped at s in
    record { next_is = omega (arith, t.next_is); found_are = sym (append-nil found) ∙ t.found_are; made_are = sym (append-nil after) ∙ t.made_are }

-- ---- parts
module _ {w : Origin} {noted : List Inside} {number : ℕ} {args : List ℕ} {first : ℕ} {before : List (List Clause)} {ps : Parts} where
  pub parts_turn : {next next' : ℕ} {after after' : List (List Clause)} (xs : List SourcePart) (i : ℕ) (x : SourcePart) (y : SourceClause) (own : List SourceClause) → i < length xs → x ≡ get_or xs i x
      → PartsSoFar w noted number args first before ps next (map clause_view own) after (parts (map part (drop i xs))) → next' ≡ next + (choices_in_all (goals (map goal x.guard.items)) + choices_in_all (goals (map goal x.body.items)))
      → clause_view y ≡ part_clause w number args next (goals (map goal x.guard.items)) x.op (goals (map goal x.body.items)) → after' ≡ after ++ made_in_part w args next (goals (map goal x.guard.items)) (goals (map goal x.body.items))
      → PartsSoFar w noted number args first before ps next' (map clause_view (own ++ y ∷ [])) after' (parts (map part (drop (i + 1) xs)))
  parts_turn xs i x y own h e s a b m =
      let dropped = parts_dropped xs i x h e in
      rw (map_push clause_view own y) (parts_step (goals (map goal x.guard.items)) x.op (goals (map goal x.body.items)) (clause_view y) (rw dropped at s) a b m)

  pub parts_room : {next : ℕ} {own : List Clause} {after : List (List Clause)} (xs : List SourcePart) (i : ℕ) (x : SourcePart) → i < length xs → x ≡ get_or xs i x
      → PartsSoFar w noted number args first before ps next own after (parts (map part (drop i xs))) → next + (choices_in_all (goals (map goal x.guard.items)) + choices_in_all (goals (map goal x.body.items))) ≤ first + choices_in_parts ps
  parts_room xs i x h e s =
      let dropped = parts_dropped xs i x h e in
      let t = rw dropped at s in
      omega (arith, t.next_is)

  pub parts_noted : {next : ℕ} {own : List Clause} {after : List (List Clause)} (xs : List SourcePart) (i : ℕ) (x : SourcePart) → i < length xs → x ≡ get_or xs i x
      → PartsSoFar w noted number args first before ps next own after (parts (map part (drop i xs))) → HasNoted noted (length after) (insides_part x)
  parts_noted xs i x h e s =
      let dropped = parts_dropped xs i x h e in
      let t = rw dropped at s in
      noted_front (insides_part x) (insides_parts (parts (map part (drop (i + 1) xs)))) t.noted_are

pub record PartsDone (w : Origin) (number : ℕ) (args : List ℕ) (first : ℕ) (before : List (List Clause)) (ps : Parts) (next : ℕ) (own : List Clause) (after : List (List Clause)) : Type 0 where
  pub next_is : next ≡ first + choices_in_parts ps
  pub own_are : own ≡ part_clauses w number args first ps
  pub made_are : after ≡ before ++ made_inside w args first ps

pub parts_done : {w : Origin} {noted : List Inside} {number : ℕ} {args : List ℕ} {first next : ℕ} {before after : List (List Clause)} {ps : Parts} {own : List Clause} (xs : List SourcePart) (i : ℕ) → length xs ≤ i
    → PartsSoFar w noted number args first before ps next own after (parts (map part (drop i xs))) → PartsDone w number args first before ps next own after
parts_done {after = after} {own = own} xs i h s =
    let dropped : drop i xs ≡ [] = drop_all i xs h in
    let t = rw dropped at s in
    record { next_is = omega (arith, t.next_is); own_are = sym (append-nil own) ∙ t.own_are; made_are = sym (append-nil after) ∙ t.made_are }

-- ---- clauses, each put in the place of what it was made of
module _ {first : ℕ} {before cs : List Clause} where
  pub clauses_turn : {after after' : List Clause} {next next' : ℕ} (xs : List SourceClause) (i : ℕ) (x y : SourceClause) → i < length xs → x ≡ get_or xs i x
      → ClausesSoFar first before cs next (map clause_view (take i xs)) after (map clause_view (drop i xs)) → next' ≡ next + clause_choices (clause_view x) → clause_view y ≡ clause_without next (clause_view x)
      → after' ≡ after ++ joined (made_of next (clause_view x)) → ClausesSoFar first before cs next' (map clause_view (take (i + 1) (set xs i y))) after' (map clause_view (drop (i + 1) (set xs i y)))
  clauses_turn xs i x y h e s a b m =
      let dropped : drop i xs ≡ x ∷ drop (i + 1) xs = one_dropped xs i x h e in
      let onward : i < i + 1 = omega arith in
      rw (take_more_set xs i y h, drop-set-lt (i + 1) xs i y onward, map_push clause_view (take i xs) y) (clauses_step (clause_view x) (clause_view y) (rw dropped at s) a b m)

  pub clauses_room : {found after : List Clause} {next : ℕ} (xs : List SourceClause) (i : ℕ) (x : SourceClause) → i < length xs → x ≡ get_or xs i x → ClausesSoFar first before cs next found after (map clause_view (drop i xs))
      → next + clause_choices (clause_view x) ≤ first + choices_of cs
  clauses_room xs i x h e s =
      let dropped : drop i xs ≡ x ∷ drop (i + 1) xs = one_dropped xs i x h e in
      let t = rw dropped at s in
      omega (arith, t.next_is)

pub record ClausesDone (first : ℕ) (before cs found after : List Clause) : Type 0 where
  pub found_are : found ≡ clauses_without first cs
  pub made_are : after ≡ before ++ made_of_all first cs

pub clauses_done : {first next : ℕ} {before cs after : List Clause} (xs : List SourceClause) (i : ℕ) → length xs ≤ i → ClausesSoFar first before cs next (map clause_view (take i xs)) after (map clause_view (drop i xs))
    → ClausesDone first before cs (map clause_view xs) after
clauses_done {after = after} xs i h s =
    let dropped : drop i xs ≡ [] = drop_all i xs h in
    let taken : take i xs ≡ xs = take_all i xs h in
    let t = rw (dropped, taken) at s in
    record { found_are = sym (append-nil (map clause_view xs)) ∙ t.found_are; made_are = sym (append-nil after) ∙ t.made_are }

-- ---- variables
pub filter_turn : (p : ℕ → Bool) (xs found new : List ℕ) (i : ℕ) → i < length xs → new ≡ found ++ filter p (get_or xs i 0 ∷ []) → found ++ filter p (drop i xs) ≡ filter p xs → new ++ filter p (drop (i + 1) xs) ≡ filter p xs
filter_turn p xs found new i h e s =
    lists_turn found (filter p (get_or xs i 0 ∷ [])) (filter p (drop i xs)) (filter p (drop (i + 1) xs)) (filter p xs) new e (ap (filter p) (drop_more xs i 0 h) ∙ filter-append p (get_or xs i 0 ∷ []) (drop (i + 1) xs)) s

pub filter_end : (p : ℕ → Bool) (xs found : List ℕ) (i : ℕ) → length xs ≤ i → found ++ filter p (drop i xs) ≡ filter p xs → found ≡ filter p xs
filter_end p xs found i h s = sym (append-nil found) ∙ sym (ap (λ z. found ++ filter p z) (drop_all i xs h)) ∙ s

pub numbers_from-more : (n k : ℕ) → numbers_from n (suc k) ≡ numbers_from n k ++ (n + k) ∷ []
numbers_from-more n zero = let e : n ≡ n + 0 = omega arith in ap (λ (m : ℕ). m ∷ []) e
numbers_from-more n (suc k) =
    let e : suc n + k ≡ n + suc k = omega arith in
    ap (λ (ns : List ℕ). n ∷ ns) (numbers_from-more (suc n) k ∙ ap (λ (m : ℕ). numbers_from (suc n) k ++ m ∷ []) e)
