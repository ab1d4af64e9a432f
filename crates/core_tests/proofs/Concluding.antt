-- Plans that may be committed, a place that was found idle and may be settled, and a core that stays as it is has gone on.
use Rattle.std.proofs.Common.{◌≡◌, ℕ, ◌+◌, ◌<◌, List, [], ◌∷◌, ◌++◌, length, Result, Ok, Err, IfOk, refl, sym, ◌∙◌, ap, inl, inr, arith, append-nil, append_assoc}
use Rattle.std.proofs.lemmas.List.{length-append}
use Rattle.akl_model.specs.declared.label.Label.{Label}
use Rattle.akl_model.specs.declared.label.Receipt.{Receipt}
use Rattle.table_laws.specs.Rows.{store_in}
use Rattle.table_laws.specs.Kept.{KeepsStores}
use Rattle.box_tree.specs.Tables.{TableValue, table_of}
use Rattle.box_tree.proofs.LeadsBy.{stores_kept}
use Rattle.box_tree.specs.Plans.{PlanValue}
use Rattle.idle_places.specs.Idling.{IdleValue}
use Rattle.place_steps.specs.declared.next.Next.{Next}
use Rattle.place_steps.specs.Next.{IsNext, HasRoom}
use Rattle.place_steps.specs.Seen.{IsSight}
use Rattle.akl_terms.specs.declared.name.Place.{Place}
use Rattle.box_tree.specs.Views.{ViewValue}
use Rattle.step_commit.specs.Cores.{CoreValue, IsCore, MayCommit, Commits, solved_in}
use Rattle.scheduler.specs.Settled.{MaySettle}
use Rattle.place_steps.proofs.Plans.{may_commit_now}
use Rattle.scheduler.proofs.Fronts as fronts
use Rattle.scheduler.proofs.Fronts.{front_now}
use Rattle.core_tests.specs.Waking.{GoesOnTo, IsFoundNow}
use Rattle.core_tests.specs.Racing.{IsPlanBy}

-- of the core as it is
pub may_commit : (c : CoreValue) (p : PlanValue) → IsFoundNow c (Next.Plan p) → MayCommit c p
may_commit c p x = may_commit_now c p (x.next.table ∙ x.sight.table) (x.next.journal ∙ x.sight.journal)

-- and of the core before one label of another worker
pub may_commit_second : (c d : CoreValue) (one two : PlanValue) (r : Receipt) → IsCore c → IsCore d → one.more ≡ [] → two.table ≡ c.table → two.journal ≡ c.journal → (two.label.worker ≡ one.label.worker → ⊥) → Commits c one d r → MayCommit d two
may_commit_second c d one two r before core alone table journal other made = fronts.may_commit d two (one.label ∷ []) (record {
  program = ap (λ (t : TableValue). t.program) table ∙ sym made.fixed.program;
  query = ap (λ (t : TableValue). t.query) table ∙ sym made.fixed.query;
  front = one_more ∙ ap (λ (ls : List Label). ls ++ one.label ∷ []) (sym journal);
  same_stores = λ n row e old.
      let later : (table_of c.table).steps < keeps.0 = keeps.1 in
      elim (keeps.2 n row e) [
        | inl new ↦ absurd (omega (arith, old, new, later, was, seen))
        | inr kept ↦ ap (λ (t : TableValue). store_in ((table_of t).box_of n)) table ∙ ap store_in kept.1 ∙ kept.2
      ];
}) (other, tt)
  where
    one_more : d.journal ≡ c.journal ++ one.label ∷ []
    one_more = made.journal ∙ ap (λ (ls : List Label). c.journal ++ one.label ∷ ls) alone

    seen : length two.journal ≡ length c.journal
    seen = ap length journal

    was : (table_of c.table).steps ≡ length c.journal
    was = before.table.stamped.steps

    is : (table_of d.table).steps ≡ length c.journal + 1
    is = core.table.stamped.steps ∙ ap length one_more ∙ length-append c.journal (one.label ∷ [])

    keeps : (number : ℕ) × ((table_of c.table).steps < number) × KeepsStores number (table_of c.table) (table_of d.table)
    keeps = stores_kept c.table one.label (length one.more) (solved_in c one) one.names (table_of d.table) (omega (arith, was, is)) one.step made.made.leads

-- a list with no more than nothing
none_left : (ls : List Label) → length ls < 1 → ls ≡ []
none_left [] few = refl
none_left (l ∷ ls) few = absurd (omega arith)

-- what was seen of a core comes to a plan of it
pub plan_by : (c : CoreValue) (place : Place) (number room : ℕ) (v : ViewValue) (p : PlanValue) → IsSight c place number v → IsNext v (Next.Plan p) → HasRoom room (Next.Plan p) → IsPlanBy c number room p
plan_by c place number room v p sight next room_for = record {
  table = next.table ∙ sight.table;
  journal = next.journal ∙ sight.journal;
  worker = next.worker ∙ sight.seer;
  alone = λ few. elim room_for [
    | inl one ↦ one
    | inr short ↦ none_left p.more (omega (arith, few, short))
  ];
}

pub may_settle : (c : CoreValue) (i : IdleValue) → IsFoundNow c (Next.Idle i) → MaySettle c i
may_settle c i x = fronts.may_settle c i [] (front_now c i.table i.journal (x.next.idle.0 ∙ x.sight.table) (x.next.idle.1 ∙ x.sight.journal))

pub stays : (c d : CoreValue) → d ≡ c → GoesOnTo c d
stays c d same = record {
  program = ap (λ (k : CoreValue). k.table.program) same;
  query = ap (λ (k : CoreValue). k.table.query) same;
  further = [];
  journal = ap (λ (k : CoreValue). k.journal) same ∙ sym (append-nil c.journal);
}

pub whatever : {T E Q : Type 0} (r : Result T E) → Q → IfOk r (λ x. Q)
whatever (Ok x) q = q
whatever (Err e) q = tt

pub goes_on : (c d e : CoreValue) → GoesOnTo c d → GoesOnTo d e → GoesOnTo c e
goes_on c d e first second = record {
  program = second.program ∙ first.program;
  query = second.query ∙ first.query;
  further = first.further ++ second.further;
  journal = second.journal ∙ ap (λ (ls : List Label). ls ++ second.further) first.journal ∙ append_assoc c.journal first.further second.further;
}
