-- A loaded definition that collects has one clause, and no other definition's clauses have a collected term.
use Rattle.std.proofs.Common.{◌≡◌, ℕ, suc, ◌<◌, List, [], ◌∷◌, slice_get, Option, Some, None, refl, sym, ap, subst, ◌∙◌, arith}
use Rattle.std.specs.Prelude.{All}
use Rattle.std.proofs.lemmas.List.Elements.{All-nil, All-cons, All-head, All-tail, All-append, All-weaker}
use Rattle.akl_terms.specs.declared.program.Code.{Code}
use Rattle.akl_terms.specs.declared.program.Clause as program
use Rattle.akl_terms.specs.declared.program.Definition.{Definition}
use Rattle.akl_terms.specs.declared.program.Program.{Program}
use Rattle.akl_terms.specs.declared.program.Query as program_query
use Rattle.akl_terms.specs.declared.program.Op.{Op}
use Rattle.akl_terms.specs.declared.program.Op.TheVariants as ops
use Rattle.akl_syntax.specs.declared.source.Head.{Head}
use Rattle.akl_syntax.specs.declared.source.Head.TheVariants as heads
use Rattle.term_syntax.specs.Tree.{Tree}
use Rattle.akl_syntax.specs.Goals.{Goal}
use Rattle.akl_syntax.specs.Clauses.{Clause, Query}
use Rattle.clause_keys.specs.declared.callee.Callee.{Callee}
use Rattle.clause_keys.specs.Keys.{defined_by, called_by}
use Rattle.clause_keys.specs.Conditions.{IsGuard, MayCollect, IsClauseLoadable, AreAlone}
use Rattle.clause_keys.specs.Conditions as conditions
use Rattle.clause_keys.proofs.Defined.{lifted_number, head_number, number_defined, number_called}
use Rattle.clause_store.specs.Codes.{AreCodes, no_codes, true_goal, a_code}
use Rattle.clause_store.specs.Loaded.{IsCollected, none_collected, a_collected, AreLoaded, none_loaded, one_loaded, AreOf, own, other, IsDefinitionOf, IsProgramOf, IsQueryOf}
use Rattle.clause_store.specs.Collecting.{CollectsAlone, not_collecting, collecting, HasCollecting}
use Rattle.clause_store.proofs.Defined.{of_all, of_defined}

-- the clause may collect
abbrev pub Collects : Clause → Type 0
Collects c = MayCollect c.part.op c.head c.collected c.part.body

-- ---- the first two clauses of a definition have two places
first_place : {k : Callee} {cs found : List Clause} {a : Clause} → AreOf k cs (a ∷ found) → (i : ℕ) × (slice_get cs i ≡ Some a)
first_place (own e p) = (0, refl)
first_place (other e p) = (let at = first_place p in (suc at.0, at.1))

record TwoPlaces (cs : List Clause) (a b : Clause) : Type 0 where
  one : ℕ
  two : ℕ
  apart : one < two
  first : slice_get cs one ≡ Some a
  second : slice_get cs two ≡ Some b

two_places : {k : Callee} {cs found : List Clause} {a b : Clause} → AreOf k cs (a ∷ b ∷ found) → TwoPlaces cs a b
two_places (own e p) = (let at = first_place p in record { one = 0; two = suc at.0; apart = omega arith; first = refl; second = at.1 })
two_places (other e p) = (let at = two_places p in record { one = suc at.one; two = suc at.two; apart = omega (arith, at.apart); first = at.first; second = at.second })

only_one : {k : Callee} {cs : List Clause} (a : Clause) (more : List Clause) → AreAlone cs → AreOf k cs (a ∷ more) → a.part.op ≡ ops.Collect → more ≡ []
only_one a [] alone p e = refl
only_one {k} {cs} a (b ∷ more) alone p e =
    let all = of_defined p in
    let rest = All-tail (λ c. defined_by c ≡ k) a (b ∷ more) all in
    let at = two_places p in
    let same : at.one ≡ at.two = alone.alone at.one at.two a b at.first at.second (All-head (λ c. defined_by c ≡ k) a (b ∷ more) all ∙ sym (All-head (λ c. defined_by c ≡ k) b more rest)) e in
    absurd (omega (arith, same, at.apart))

-- ---- clauses that don't collect
none_written : {op : Op} {h : Head} {o : Option Tree} {gs : List Goal} → MayCollect op h o gs → IsGuard op → o ≡ None
none_written (conditions.guarding g) i = refl
none_written conditions.collecting i = absurd i

none_node : {Is : ℕ → Tree → Type 0} {o : Option Tree} {n : Option ℕ} → IsCollected Is o n → o ≡ None → n ≡ None
none_node none_collected e = refl
none_node (a_collected p) e = absurd cc

none_loaded_collected : {callees : List Callee} {Is : ℕ → Tree → Type 0} {cs : List Clause} {ls : List program.Clause} (op : Op) → IsGuard op → AreLoaded callees Is cs ls → All Collects cs → All (λ c. c.part.op ≡ op) cs → All (λ c. c.collected ≡ None) ls
none_loaded_collected op g none_loaded a b = All-nil (λ c. c.collected ≡ None)
none_loaded_collected op g (one_loaded {c = c} {cs = cs} {loaded = l} {more = ls} h p) a b =
    let guard : IsGuard c.part.op = subst IsGuard (sym (All-head (λ d. d.part.op ≡ op) c cs b)) g in
    All-cons (λ d. d.collected ≡ None) l ls (none_node h.collected (none_written (All-head Collects c cs a) guard))
    (none_loaded_collected op g p (All-tail Collects c cs a) (All-tail (λ d. d.part.op ≡ op) c cs b))

-- ---- a clause that collects
no_body : {callees : List Callee} {Is : ℕ → Tree → Type 0} {gs : List Goal} {codes : List Code} → AreCodes callees Is gs codes → gs ≡ [] → codes ≡ []
no_body no_codes e = refl
no_body (true_goal h p) e = absurd cc
no_body (a_code h p) e = absurd cc

some_node : {Is : ℕ → Tree → Type 0} {o : Option Tree} {n : Option ℕ} {t : Tree} → IsCollected Is o n → o ≡ Some t → (m : ℕ) × (n ≡ Some m)
some_node none_collected e = absurd cc
some_node (a_collected {n = m} p) e = (m, refl)

one_collects : {callees : List Callee} {Is : ℕ → Tree → Type 0} {ls : List program.Clause} (c : Clause) (number : ℕ) (t : Tree) → AreLoaded callees Is (c ∷ []) ls → c.collected ≡ Some t → c.part.body ≡ [] → CollectsAlone ops.Collect (Some number) ls
one_collects c number t (one_loaded {loaded = l} h none_loaded) e b = (let node = some_node h.collected e in collecting node.1 (no_body h.body b))

module _ {callees : List Callee} {Is : ℕ → Tree → Type 0} {cs : List Clause} (d : Definition) (first : Clause) (more : List Clause) (alone : AreAlone cs) (found : AreOf (called_by d) cs (first ∷ more))
    (op_is : All (λ c. c.part.op ≡ d.op) (first ∷ more)) (loaded : AreLoaded callees Is (first ∷ more) d.clauses) (may : All Collects (first ∷ more)) where
  by_first : (op : Op) (h : Head) (o : Option Tree) (gs : List Goal) → first.part.op ≡ op → first.head ≡ h → first.collected ≡ o → first.part.body ≡ gs → MayCollect op h o gs → CollectsAlone d.op d.lifted d.clauses
  by_first op h o gs p q r b (conditions.guarding g) =
      let same : op ≡ d.op = sym p ∙ All-head (λ c. c.part.op ≡ d.op) first more op_is in
      let guard : IsGuard d.op = subst IsGuard same g in
      not_collecting guard (none_loaded_collected d.op guard loaded may op_is)
  by_first op h o gs p q r b (conditions.collecting {number = number} {t = t}) =
      let same : ops.Collect ≡ d.op = sym p ∙ All-head (λ c. c.part.op ≡ d.op) first more op_is in
      let none : more ≡ [] = only_one first more alone found p in
      let called : defined_by first ≡ called_by d = All-head (λ c. defined_by c ≡ called_by d) first more (of_defined found) in
      let lifted : Some number ≡ d.lifted = sym (sym (number_called d) ∙ ap lifted_number (sym called) ∙ number_defined first ∙ ap head_number q) in
      let one = one_collects first number t (subst (λ (z : List Clause). AreLoaded callees Is (first ∷ z) d.clauses) none loaded) r b in
      subst (λ (z : Op). CollectsAlone z d.lifted d.clauses) same (subst (λ (z : Option ℕ). CollectsAlone ops.Collect z d.clauses) lifted one)

pub collects_alone : {callees : List Callee} {Is : ℕ → Tree → Type 0} {cs : List Clause} (d : Definition) → AreAlone cs → All Collects cs → IsDefinitionOf callees Is cs d → CollectsAlone d.op d.lifted d.clauses
collects_alone d alone a p =
    let may = of_all Collects p.found a in
    by_first d p.first p.more alone p.found p.op p.clauses may p.first.part.op p.first.head p.first.collected p.first.part.body refl refl refl refl (All-head Collects p.first p.more may)

pub all_alone : {callees : List Callee} {Is : ℕ → Tree → Type 0} {cs : List Clause} (ds : List Definition) → AreAlone cs → All Collects cs → All (IsDefinitionOf callees Is cs) ds → All (λ d. CollectsAlone d.op d.lifted d.clauses) ds
all_alone {callees} {Is} {cs} ds alone a = All-weaker (IsDefinitionOf callees Is cs) (λ d. CollectsAlone d.op d.lifted d.clauses) (λ d. collects_alone d alone a) ds

pub may_collect : (callees : List Callee) (cs : List Clause) → All (IsClauseLoadable callees) cs → All Collects cs
may_collect callees cs = All-weaker (IsClauseLoadable callees) Collects (λ c l. l.collected) cs

pub program_collects : (cs : List Clause) (p : Program) → IsProgramOf cs p → AreAlone cs → All Collects cs → HasCollecting p
program_collects cs p is alone a = record { each = all_alone p.definitions alone a is.definitions }

-- a program that gains definitions
pub query_collects : {old new : Program} {lifted : List Clause} {q : Query} {l : program_query.Query} → IsQueryOf old lifted q new l → AreAlone lifted → All Collects lifted → HasCollecting old → HasCollecting new
query_collects {old} {new} is alone a h =
    record { each = subst (All (λ d. CollectsAlone d.op d.lifted d.clauses)) (sym is.definitions_are) (All-append (λ d. CollectsAlone d.op d.lifted d.clauses) old.definitions is.added h.each (all_alone is.added alone a is.definitions)) }
