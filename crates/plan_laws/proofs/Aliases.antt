-- Variables that are enough since others are equal to them in each box down to a place: what binds a variable binds what is equal to it.
use Rattle.std.proofs.Common.{◌≡◌, List, [], ◌∷◌, ◌++◌, Some, sym, ◌∙◌, ap, subst, inr}
use Rattle.akl_terms.specs.declared.name.Name.{Name}
use Rattle.akl_terms.specs.declared.name.Var.{Var}
use Rattle.akl_terms.specs.declared.name.Place.{Place}
use Rattle.akl_terms.specs.declared.program.Program.{Program}
use Rattle.akl_terms.specs.declared.program.Query.{Query}
use Rattle.akl_terms.specs.Tree.{Tree, variable}
use Rattle.akl_terms.specs.Equal.{Equations, IsTold, Equal, same, Follows}
use Rattle.akl_terms.proofs.EqualLaws.{Equal-follows, IsTold-left}
use Rattle.akl_model.specs.declared.label.Rule.{Rule}
use Rattle.akl_model.specs.declared.label.Label.{Label}
use Rattle.akl_model.specs.Config.{IsIn, Content, Config, Found, equations_of, whole, box_at, site_of}
use Rattle.akl_model.specs.Derivations.{Applies, Replays}
use Rattle.akl_model.specs.Changes.{Binds}
use Rattle.akl_model.specs.Wakes.{IsAt, Opens, names_around, names_down_to}
use Rattle.akl_model.proofs.NamesKept.{box-itself, site-box}
use Rattle.constraint_laws.specs.Touched.{IsAmong}
use Rattle.constraint_laws.proofs.Beside.{follows_told}
use Rattle.step_laws.specs.Bound.{first_equations}
use Rattle.step_laws.proofs.Whereabouts.{found_in}
use Rattle.step_laws.proofs.Steps.{later_step}
use Rattle.step_laws.proofs.Stays.{equations_grow}
use Rattle.plan_laws.specs.Sleeps.{Needs, of_box_around, of_atom, of_alternative, of_box, IsOutermostAt, IsAliasAt, IsEnough, PassesBy}
use Rattle.plan_laws.proofs.InScope.{Good}
use Rattle.plan_laws.proofs.Around.{chain_down}
use Rattle.plan_laws.proofs.Replayed.{good_replay, replay_further}
use Rattle.plan_laws.proofs.DownTo.{is_down, down_to, path_to, begins_path, outermost, begins_outermost, outermost_whole, there_before}
use Rattle.constraint_laws.proofs.AliasLists.{newly_bound_with, HasAlias, AreAliases, alias_list}

-- in each box down to a place two variables are equal
pub record AreEqualDown (c : Config) (place : Place) (y x : Var) : Type 0 where
  pub each : (n : Name) → IsAt n c.roots place → (m : Found) → box_at n c.roots ≡ Some m → Equal (whole m) (variable y) (variable x)

-- each variable of a list has such an alias that is kept
pub record HaveAliases (c : Config) (place : Place) (Kept : Var → Type 0) (xs : List Var) : Type 0 where
  pub each : (x : Var) → IsAmong x xs → (y : Var) × Kept y × AreEqualDown c place y x

-- where what was kept still is
pub kept_further : (c : Config) (place : Place) (Kept Kept_now : Var → Type 0) (xs : List Var) → ((y : Var) → Kept y → Kept_now y) → HaveAliases c place Kept xs → HaveAliases c place Kept_now xs
kept_further c place Kept Kept_now xs f h = record { each = λ x i. let y : (y : Var) × Kept y × AreEqualDown c place y x = h.each x i in (y.0, f y.0 y.1, y.2) }

-- the equations of the first box of a path are among those down to each of its boxes
first_told : (A : List Content) (b : Content) (B L : List Content) → A ++ b ∷ B ≡ L → (s t : Tree) → IsTold (first_equations L) s t → IsTold (equations_of A ++ b.equations) s t
first_told A b B L q s t m = on A (subst (λ (L : List Content). IsTold (first_equations L) s t) (sym q) m)
  where
    on : (A : List Content) → IsTold (first_equations (A ++ b ∷ B)) s t → IsTold (equations_of A ++ b.equations) s t
    on [] m = m
    on (a ∷ A) m = IsTold-left (a.equations ++ equations_of A) b.equations s t (IsTold-left a.equations (equations_of A) s t m)

-- what is enough, and all that is equal to it by the equations of the outermost box
pub record Completed (p : Program) (c : Config) (kept : List Var) (place : Place) : Type 0 where
  pub all : List Var
  pub needed : (x : Var) → Needs p c place x → IsAmong x all
  pub aliases : HaveAliases c place (λ y. IsAmong y kept) all

pub completed : (p : Program) (c : Config) (kept : List Var) (place : Place) → Good c → IsEnough p c kept place → Completed p c kept place
completed p c kept place w enough = record {
  all = list.0;
  needed = λ x n. let y : (y : Var) × IsAmong y kept × IsAliasAt c place y x = enough.each x n in list.1.all x (y.0, y.1, subst (λ (E : Equations). Equal E (variable y.0) (variable x)) (of_outermost y.0 x y.2) y.2.equal);
  aliases = record { each = λ x i. let y : HasAlias E kept x = list.1.each x i in (y.0, y.1, record { each = λ n h m e. Equal-follows (further_in n h m e) y.2 }) };
}
  where
    E : Equations
    E = first_equations (path_to (site_of place c.roots))

    list : (xs : List Var) × AreAliases E kept xs
    list = alias_list E kept

    further_in : (n : Name) → IsAt n c.roots place → (m : Found) → box_at n c.roots ≡ Some m → Follows E (whole m)
    further_in n h m e =
        let b : (rest : List Content) × (m.around ++ m.content ∷ rest ≡ path_to (site_of place c.roots)) = begins_path c w place n m h e in
        follows_told E (whole m) (first_told m.around m.content b.0 (path_to (site_of place c.roots)) b.1)

    of_outermost : (y x : Var) (a : IsAliasAt c place y x) → whole a.outermost ≡ E
    of_outermost y x a = outermost_whole a.outermost a.is_outermost.is_root ∙ ap first_equations (begins_outermost c w place a.outermost a.is_outermost).1

-- a place that needs a variable is there
needs_there : (p : Program) (c : Config) (place : Place) (x : Var) → Needs p c place x → (f : Found) × (site_of place c.roots ≡ Some f)
needs_there p c place x (of_box_around n h e still t) = let u : (f : Found) × (site_of place c.roots ≡ Some f) × IsIn n (names_down_to f) = down_to n c.roots place (inr h) in (u.0, u.1)
needs_there p c place x (of_atom {f = f} e h still k q) = (f, e)
needs_there p c place x (of_alternative {f = f} n not_choice e h a solved still t) = (f, e)
needs_there p c place x (of_box {f = f} e s) = (f, e)

-- so each variable that it needs is an alias of itself
pub all_needed : (rules : List Rule) (p : Program) (q : Query) (journal : List Label) (c : Config) (kept : List Var) (place : Place) → Replays rules p q journal c
    → ((x : Var) → Needs p c place x → IsAmong x kept) → IsEnough p c kept place
all_needed rules p q journal c kept place r needed = record { each = λ x n. (x, needed x n, itself x (needs_there p c place x n)) }
  where
    itself : (x : Var) → (f : Found) × (site_of place c.roots ≡ Some f) → IsAliasAt c place x x
    itself x (f, e) =
        let o : (o : Found) × IsOutermostAt c place o = outermost c (good_replay rules p q journal c r) place f e in
        record { outermost = o.0; is_outermost = o.1; equal = same }

-- what is bound or made equal in a box is so with what is equal to it there
binds_with : (c d : Config) (n : Name) (x y : Var) (b : Binds c d n x) → Follows (whole b.adds.before) (whole b.adds.afterwards) → Equal (whole b.adds.before) (variable y) (variable x) → Binds c d n y
binds_with c d n x y b f e = record { adds = b.adds; consistent = b.consistent; newly_bound = newly_bound_with (whole b.adds.before) (whole b.adds.afterwards) f x y e b.newly_bound }

-- over a label that doesn't open the place by what it changes
module _ (rules : List Rule) (p : Program) (c : Config) (l : Label) (d : Config) (w : Good c) (v : Good d) (a : Applies rules p c l d) where
  pub grown : (n : Name) (e f : Found) → box_at n c.roots ≡ Some e → box_at n d.roots ≡ Some f → Follows (whole e) (whole f)
  grown n e f i j = follows_told (whole e) (whole f)
      (equations_grow c d w.stand v.stand (later_step rules p c l d w.stand a) e f (found_in n c.roots e i) (found_in n d.roots f j) (sym (box-itself n c.roots e i) ∙ box-itself n d.roots f j))

  module _ (place : Place) (unopened : Opens [] c d place → ⊥) (Kept : Var → Type 0) (xs : List Var) (h : HaveAliases c place Kept xs) where
    -- what passes by the kept ones passes by all
    pub passes_all : ((n : Name) → IsAt n c.roots place → (y : Var) → Kept y → Binds c d n y → ⊥) → PassesBy rules p xs place c l d
    passes_all unbound = record { applies = a; unopened = unopened; unbound = all_unbound }
      where
        all_unbound : (n : Name) → IsAt n c.roots place → (x : Var) → IsAmong x xs → Binds c d n x → ⊥
        all_unbound n i x k b =
            let y : (y : Var) × Kept y × AreEqualDown c place y x = h.each x k in
            unbound n i y.0 y.1 (binds_with c d n x y.0 b (grown n b.adds.before b.adds.afterwards b.adds.was b.adds.is) (y.2.each n i b.adds.before b.adds.was))

    pub aliases_on : HaveAliases d place Kept xs
    aliases_on = record { each = λ x k. let y : (y : Var) × Kept y × AreEqualDown c place y x = h.each x k in (y.0, y.1, record { each = λ n i m e. on y.0 x y.2 n m e (down_to n d.roots place i) }) }
      where
        on : (y x : Var) → AreEqualDown c place y x → (n : Name) (m : Found) → box_at n d.roots ≡ Some m → (k : Found) × (site_of place d.roots ≡ Some k) × IsIn n (names_down_to k) → Equal (whole m) (variable y) (variable x)
        on y x q n m e (k, i, h) =
            let f : (f : Found) × (site_of place c.roots ≡ Some f) × (names_down_to k ≡ names_down_to f) = there_before rules p c l d w v a place unopened k i in
            let h : IsIn n (names_down_to f.0) = subst (IsIn n) f.2 h in
            let g : (g : Found) × (box_at n c.roots ≡ Some g) × ((b : Name) → IsIn b (names_around g) → IsIn b (names_down_to f.0)) =
            (chain_down c w f.0.content.name f.0 (site-box place c.roots f.0 w.stand.once f.1)).found n h in
            Equal-follows (grown n g.0 m g.1 e) (q.each n (is_down n c.roots place f.0 f.1 h) g.0 g.1)

-- so what passes by those that are enough passes by all, over one label after another
pub passes_with : (rules : List Rule) (p : Program) (q : Query) (journal : List Label) (c : Config) (l : Label) (d : Config) (place : Place) (kept all : List Var) → Replays rules p q journal c
    → PassesBy rules p kept place c l d → HaveAliases c place (λ y. IsAmong y kept) all → PassesBy rules p all place c l d × HaveAliases d place (λ y. IsAmong y kept) all
passes_with rules p q journal c l d place kept all r x h = (
  passes_all rules p c l d w v x.applies place x.unopened (λ y. IsAmong y kept) all h x.unbound,
  aliases_on rules p c l d w v x.applies place x.unopened (λ y. IsAmong y kept) all h,
)
  where
    w : Good c
    w = good_replay rules p q journal c r

    v : Good d
    v = good_replay rules p q (journal ++ l ∷ []) d (replay_further rules p q journal c l d r x.applies)
