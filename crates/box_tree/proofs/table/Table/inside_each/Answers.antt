use Rattle.std.proofs.Common.{◌≡◌, List, [], ◌∷◌, length, get_or, arith}
use Rattle.std.specs.Result.{IfOk}
use Rattle.std.specs.declared.result.Result.{Result}
use Rattle.akl_terms.specs.declared.name.Name.{Name}
use Rattle.table_laws.specs.Rows.{Table}
use Rattle.table_laws.specs.Walks.{ListsInside, ListsEach}
use Rattle.table_laws.proofs.Drops.{each_none, each_more}
use Rattle.box_tree.specs.Shorts.{ShortItems}
use Rattle.box_tree.specs.Tables.{table_of}
use Rattle.box_tree.proofs.table.Table.inside_each.Goals as goal

each_one : (T : Table) (boxes names : List Name) (d : Name) → length boxes ≡ 1 → ListsInside T (get_or boxes 0 d) names → ListsEach T boxes names
each_one T [] names d l x = absurd (omega arith)
each_one T (n ∷ []) names d l x = each_more T [] [] n names (each_none T) x
each_one T (n ∷ m ∷ ns) names d l x = absurd (omega arith)

where_ok : {E : Type 0} (T : Table) (boxes : List Name) (d : Name) → length boxes ≡ 1 → (r : Result (ShortItems Name) E) → IfOk r (λ v. ListsInside T (get_or boxes 0 d) v.items) → IfOk r (λ v. ListsEach T boxes v.items)
where_ok T boxes d l (Result.Ok v) x = each_one T boxes v.items d l x
where_ok T boxes d l (Result.Err e) x = x

pub returns-in-len1 : goal.returns-in-len1
returns-in-len1 c =
    let a = c.in-len1.len_at_least in let b = c.in-len1.len_below in
    where_ok (table_of c.args.self.now) c.args.boxes.now (record { worker = 0; number = 0 }) (omega (arith, a, b)) c.inside.result c.inside.ensures
