-- Bytes that write a lawful list read back as that list, and bytes that read as one write it.
use Rattle.std.proofs.Common.{◌≡◌, ℕ, zero, suc, ◌-◌, ◌/◌, ◌%◌, ◌<◌, ◌≤◌, List, [], ◌∷◌, ◌++◌, length, get_or, drop, sym, refl, ap, ◌∙◌, subst, arith}
use Rattle.std.proofs.lemmas.List.{append-nil, drop_all, drop_more, length-drop}
use Rattle.std.specs.List.{flat_map}
use Rattle.fabric.specs.RouteLists.{Listing, Lawful, LawfulRoutes, encode, encode_rest, encode_route}
use Rattle.fabric.specs.RouteReading.{decoded, first_routes, first_end}
use Rattle.fabric.specs.RouteRefusals.{HeaderRule, stated_terminals, stated_links, stated_routes}
use Rattle.fabric.specs.RouteBytes.{drop_routes, read_back, length_routes}

-- what is read of bytes that write a list
pub record ReadsAs (v : Listing) (bs : List ℕ) : Type 0 where
  pub header : (k : ℕ) → k < 4 → HeaderRule bs k
  pub is : decoded bs ≡ v
  pub whole : first_end bs (stated_routes bs) ≡ length bs

encode_header : (v : Listing) → Lawful v → (k : ℕ) → k < 4 → HeaderRule (encode v) k
encode_header v ok zero h = (omega arith, omega arith)
encode_header v ok (suc zero) h = refl
encode_header v ok (suc (suc zero)) h = ok.terminal_count
encode_header v ok (suc (suc (suc k))) h = (omega (arith, ok.link_count), omega (arith, ok.link_count))

encode_reads : (v : Listing) → Lawful v → ReadsAs v (encode v)
encode_reads v ok =
    let bs : List ℕ = encode v in
    let past = drop_all (length bs) bs (omega arith) in
    let back = read_back bs v.routes 7 (length bs) (omega arith) (omega arith) (sym (ap (λ e. flat_map encode_route v.routes ++ e) past ∙ append-nil (flat_map encode_route v.routes))) in
    let links : stated_links bs ≡ v.links = omega arith in
    record {
      header = encode_header v ok;
      is = λ i. record { terminals = v.terminals; links = links i; routes = back.0 i };
      whole = back.1;
    }

pub reads_as : (v : Listing) (bs : List ℕ) → Lawful v → encode v ≡ bs → ReadsAs v bs
reads_as v bs ok e = subst (ReadsAs v) e (encode_reads v ok)

-- the seven bytes of the header, and the others
seven : (bs : List ℕ) → 7 ≤ length bs → bs ≡ get_or bs 0 0 ∷ get_or bs 1 0 ∷ get_or bs 2 0 ∷ get_or bs 3 0 ∷ get_or bs 4 0 ∷ get_or bs 5 0 ∷ get_or bs 6 0 ∷ drop 7 bs
seven bs h =
    let d0 : bs ≡ get_or bs 0 0 ∷ drop 1 bs = drop_more bs 0 0 (omega arith) in
    let d1 : drop 1 bs ≡ get_or bs 1 0 ∷ drop 2 bs = drop_more bs 1 0 (omega arith) in
    let d2 : drop 2 bs ≡ get_or bs 2 0 ∷ drop 3 bs = drop_more bs 2 0 (omega arith) in
    let d3 : drop 3 bs ≡ get_or bs 3 0 ∷ drop 4 bs = drop_more bs 3 0 (omega arith) in
    let d4 : drop 4 bs ≡ get_or bs 4 0 ∷ drop 5 bs = drop_more bs 4 0 (omega arith) in
    let d5 : drop 5 bs ≡ get_or bs 5 0 ∷ drop 6 bs = drop_more bs 5 0 (omega arith) in
    let d6 : drop 6 bs ≡ get_or bs 6 0 ∷ drop 7 bs = drop_more bs 6 0 (omega arith) in
    cc

-- bytes whose fields all keep their rules, and that end with the last route
pub accepted_from : (bs : List ℕ) → ((k : ℕ) → k < 4 → HeaderRule bs k) → get_or bs 1 0 < 256 → get_or bs 5 0 < 256 → first_end bs (stated_routes bs) ≡ length bs → LawfulRoutes (stated_terminals bs) (stated_links bs) (first_routes bs (stated_routes bs)) → Lawful (decoded bs) × (encode (decoded bs) ≡ bs)
accepted_from bs header b1 b5 whole lawful =
    let size = header 0 (omega arith) in
    let version : get_or bs 2 0 ≡ 1 = header 1 (omega arith) in
    let n : ℕ = stated_routes bs in
    let rest : List ℕ = flat_map encode_route (first_routes bs n) in
    let split = drop_routes bs n 7 (omega (arith, whole)) in
    let past : drop (first_end bs n) bs ≡ [] = drop_all (first_end bs n) bs (omega (arith, whole)) in
    let same : rest ≡ drop 7 bs = sym (split ∙ ap (λ e. rest ++ e) past ∙ append-nil rest) in
    let long : length rest ≡ length bs - 7 = ap length same ∙ length-drop 7 bs in
    let count : length (first_routes bs n) ≡ n = length_routes bs n 7 in
    let n0 : length (encode_rest (decoded bs)) / 256 ≡ get_or bs 0 0 = omega arith in
    let n1 : length (encode_rest (decoded bs)) % 256 ≡ get_or bs 1 0 = omega arith in
    let l0 : stated_links bs / 256 ≡ get_or bs 4 0 = omega arith in
    let l1 : stated_links bs % 256 ≡ get_or bs 5 0 = omega arith in
    let all = seven bs size.0 in (
      record { terminal_count = header 2 (omega arith); link_count = header 3 (omega arith); routes_lawful = lawful },
      cc,
    )
