-- The links of a pair's route, and what it crosses.
use Rattle.std.proofs.Common.{◌≡◌, ap, ℕ, Bool, true, false, ◌&&◌, ◌||◌, cond, List, [], ◌∷◌, Option, None, Some, MatchOption, refl, subst, sym, ◌∙◌}
use Rattle.std.proofs.lemmas.Bool.{or_from, or_parts, and_left}
use Rattle.std.proofs.Math.Bool.{or-false}
use Rattle.std.specs.List.{find}
use Rattle.std.specs.Option.{is_some, option_map, option_map_or}
use Rattle.fabric.specs.declared.pairs.Pair.{Pair}
use Rattle.fabric.specs.RouteLists.{Route, Distinct, ends, joins, among, some_joins, some_crosses}
use Rattle.fabric.specs.RouteReading.{links_of}
use Rattle.fabric.specs.RouteLaws.{joins_ends}

pub crosses_none : (rs : List Route) (p : Pair) (k : ℕ) → some_joins rs p ≡ false → some_crosses rs p k ≡ false
crosses_none [] p k e = refl
crosses_none (r ∷ rs) p k e =
    let parts = or_parts (joins r p) (some_joins rs p) e in
    or_from (joins r p && among k r.links) (some_crosses rs p k) (and_left _ (among k r.links) parts.0) (crosses_none rs p k parts.1)

-- the pair's route is the first, or one of the others
crosses_first : (b others : Bool) (r : Route) (found : Option Route) (k : ℕ) → (b ≡ true → others ≡ false) → (b ≡ false → others ≡ option_map_or (among k) (option_map (λ x. x.links) found) false) → ((b && among k r.links) || others) ≡ option_map_or (among k) (option_map (λ x. x.links) (cond b (Some r) found)) false
crosses_first true others r found k none more = rw (none refl) (or-false (among k r.links))
crosses_first false others r found k none more = more refl

joins_first : (b others : Bool) (r : Route) (found : Option Route) → is_some (option_map (λ x. x.links) found) ≡ others → is_some (option_map (λ x. x.links) (cond b (Some r) found)) ≡ (b || others)
joins_first true others r found more = refl
joins_first false others r found more = more

-- a pair's route crosses its links
pub crosses_links : (rs : List Route) (p : Pair) (k : ℕ) → Distinct rs → some_crosses rs p k ≡ option_map_or (among k) (links_of rs p) false
crosses_links [] p k d = refl
crosses_links (r ∷ rs) p k d =
    crosses_first (joins r p) (some_crosses rs p k) r (find (λ x. joins x p) rs) k
    (λ here.
    let at = joins_ends r p here in
    let same : ends r ≡ p = λ i. record { source = at.0 i; destination = at.1 i } in
    crosses_none rs p k (subst (λ q. some_joins rs q ≡ false) same d.0))
    (λ _. crosses_links rs p k d.1)

joins_links : (rs : List Route) (p : Pair) → is_some (links_of rs p) ≡ some_joins rs p
joins_links [] p = refl
joins_links (r ∷ rs) p = joins_first (joins r p) (some_joins rs p) r (find (λ x. joins x p) rs) (joins_links rs p)

module _ {A : Type 0} (view : A → List ℕ) where
  -- the same of links that a view reads
  some_view : (o : Option A) → is_some o ≡ is_some (option_map view o)
  some_view None = refl
  some_view (Some x) = refl

  pub found_joins : (o : Option A) (rs : List Route) (p : Pair) → option_map view o ≡ links_of rs p → is_some o ≡ some_joins rs p
  found_joins o rs p e = some_view o ∙ ap is_some e ∙ joins_links rs p

  pub found_crosses : (o : Option A) (rs : List Route) (p : Pair) (k : ℕ) (r : Bool) (Called : A → Type 0) → option_map view o ≡ links_of rs p → Distinct rs → MatchOption o (r ≡ false) Called → ((x : A) → Called x → r ≡ among k (view x)) → r ≡ some_crosses rs p k
  found_crosses o rs p k r Called e d called each =
      go o called ∙ ap (λ found. option_map_or (among k) found false) e ∙ sym (crosses_links rs p k d)
    where
      go : (o : Option A) → MatchOption o (r ≡ false) Called → r ≡ option_map_or (among k) (option_map view o) false
      go None none = none
      go (Some x) some = each x some
