-- The boxes down to a box, by the choice that holds it.
use Rattle.std.proofs.Common.{◌≡◌, ◌<◌, List, [], ◌∷◌, ◌++◌, length, Option, Some, None, refl, sym, ap, subst, ◌∙◌, arith}
use Rattle.std.proofs.lemmas.List.{reverse-append}
use Rattle.std.specs.Prelude.{option_map}
use Rattle.akl_terms.specs.declared.name.Name.{Name}
use Rattle.akl_model.specs.declared.label.Label.{Label}
use Rattle.akl_model.proofs.Options.{some_value}
use Rattle.table_laws.specs.Rows.{Table}
use Rattle.box_tree.specs.Tables.{TableValue, table_of}
use Rattle.box_tree.specs.Paths.{home_at, outside_of, Deep, HasPath, IsPath}
use Rattle.opened_places.specs.declared.around.Around.{Around}
use Rattle.opened_places.specs.declared.around.Holder.{Holder}
use Rattle.opened_places.specs.Exact.{IsAround}

pub outside_is : (T : Table) (l : Label) (x : Around) → IsAround T l x → outside_of T x.home ≡ option_map (λ (h : Holder). h.home) x.holder
outside_is T l x k = on x.holder refl
  where
    on : (o : Option Holder) → x.holder ≡ o → outside_of T x.home ≡ option_map (λ (h : Holder). h.home) o
    on None e = ap (home_at T) (sym k.holder ∙ ap (option_map (λ (h : Holder). h.goal)) e)
    on (Some h) e = ap (home_at T) (sym k.holder ∙ ap (option_map (λ (h : Holder). h.goal)) e) ∙ k.holder_home h e

-- a box in another one
pub path_inner : (T : Table) (n m : Name) (outer path : List Name) → outside_of T n ≡ Some m → IsPath T m outer → path ≡ outer ++ n ∷ [] → IsPath T n path
path_inner T n m outer path e w p = (m ∷ w.0, (e, w.1), p ∙ ap (λ (ns : List Name). ns ++ n ∷ []) w.2 ∙ sym (reverse-append (n ∷ []) (m ∷ w.0)))

pub path_outer : (v : TableValue) (n m : Name) → HasPath v n → outside_of (table_of v) n ≡ Some m → HasPath v m
path_outer v n m h e = on h.0 h.1 h.2
  where
    on : (ms : List Name) → Deep (table_of v) n ms → length ms < length v.boxes → HasPath v m
    on [] d l = let z : None ≡ Some m = sym d ∙ e in absurd cc
    on (k ∷ ks) d l = (ks, subst (λ (x : Name). Deep (table_of v) x ks) (some_value (sym d.0 ∙ e)) d.1, omega arith)
