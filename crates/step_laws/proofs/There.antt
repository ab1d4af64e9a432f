-- Which places are there.
use Rattle.std.proofs.Common.{◌≡◌, Option, Some, None, true, refl, ap}
use Rattle.std.specs.Prelude.{option_map, is_some}
use Rattle.akl_terms.specs.declared.name.Place.{Place}
use Rattle.akl_model.specs.Config.{Boxes, Found, box_at, home_of, site_of}
use Rattle.akl_model.specs.Wakes.{names_around, names_down_to, IsThere}

-- a place is there where its site is
pub site_there : (place : Place) (bs : Boxes) (f : Found) → site_of place bs ≡ Some f → IsThere place bs
site_there (Place.Goal g) bs f e = ap (λ (o : Option Found). is_some (option_map names_down_to o)) e
site_there (Place.Box n) bs f e = ap (λ (o : Option Found). is_some (option_map names_around o)) e

pub there_site : (place : Place) (bs : Boxes) → IsThere place bs → (f : Found) × (site_of place bs ≡ Some f)
there_site (Place.Goal g) bs h = on (home_of g bs) h
  where
    on : (o : Option Found) → is_some (option_map names_down_to o) ≡ true → (f : Found) × (o ≡ Some f)
    on None i = cc
    on (Some f) i = (f, refl)
there_site (Place.Box n) bs h = on (box_at n bs) h
  where
    on : (o : Option Found) → is_some (option_map names_around o) ≡ true → (f : Found) × (o ≡ Some f)
    on None i = cc
    on (Some f) i = (f, refl)
