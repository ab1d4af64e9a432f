-- The stores around the box of a place, as a view shows them.
use Rattle.std.proofs.Common.{◌≡◌, [], ◌∷◌, ◌∙◌, ap}
use Rattle.akl_model.specs.Wakes.{names_around}
use Rattle.local_store.specs.Chained.{around}
use Rattle.table_laws.specs.Rows.{store_in, stores_along}
use Rattle.table_laws.proofs.Stores.{stores_join}
use Rattle.table_laws.proofs.StoreChains.{around_push}
use Rattle.box_tree.specs.Tables.{table_of}
use Rattle.box_tree.specs.Views.{ViewValue, IsViewOf}

pub stores_around : (v : ViewValue) (i : IsViewOf v) → around v.stores ≡ stores_along (table_of v.table) (names_around i.site)
stores_around v i = ap around (i.stores ∙ ap (stores_along (table_of v.table)) i.path ∙ stores_join (table_of v.table) (names_around i.site) (i.site.content.name ∷ []))
    ∙ around_push (stores_along (table_of v.table) (names_around i.site)) (store_in ((table_of v.table).box_of i.site.content.name))
