-- Words that are turned away ask for nothing.
use Rattle.std.proofs.Common.{◌≡◌, ℕ, zero, suc, ◌+◌, ◌-◌, ◌*◌, ◌<◌, ◌≤◌, true, List, [], ◌∷◌, ◌++◌, length, get_or, drop, codes, sym, refl, ap, ◌∙◌, subst, inl, inr, ⊎_elim, arith, rules, length-drop}
use Rattle.std.specs.List.{AllByRecursion}
use Rattle.std.proofs.lemmas.List.{get_or-drop}
use Rattle.fabric.specs.declared.modules.Module.{Module}
use Rattle.fabric.specs.declared.pairs.Pair.{Pair}
use Rattle.report.specs.declared.descriptions.Description.{Description}
use Rattle.report.specs.declared.descriptions.Description.TheVariants.{Line, Tree, List as Listed}
use Rattle.report.specs.declared.misuses.Misuse.{Misuse}
use Rattle.report.specs.declared.misuses.Misuse.TheVariants.{UnknownFabric, NoDescription, NotNumbers, NotAModule, Unpaired, NotANumber, NoMemory}
use Rattle.report.specs.Requests.{module_words, fabric_words, pair_words, ShortModule, ShortPair, Describes, wants_pairs, Asks, AskNothing, OptionsTo, FabricTo, IsModule, NamesFabric, TurnedAway}
use Rattle.report.specs.Spelled.{IsNumber, IsNumbers}

-- options on both sides of an equation are as many
options_same : (ms ks : List Module) (rest more : List (List ℕ)) → module_words ms ++ rest ≡ module_words ks ++ more → (get_or rest 0 [] ≡ codes "--spur" → ⊥) → (get_or more 0 [] ≡ codes "--spur" → ⊥) → rest ≡ more
options_same [] [] rest more e none no_more = e
options_same [] (k ∷ ks) rest more e none no_more = absurd (none (ap (λ l. get_or l 0 []) e))
options_same (m ∷ ms) [] rest more e none no_more = absurd (no_more (sym (ap (λ l. get_or l 0 []) e)))
options_same (m ∷ ms) (k ∷ ks) rest more e none no_more = options_same ms ks rest more (ap (drop 2) e) none no_more

-- what follows `--spur` is a module where options are read whole
module_follows : (ms ks : List Module) (rest more : List (List ℕ)) → module_words ms ++ rest ≡ module_words ks ++ more → get_or rest 0 [] ≡ codes "--spur" → (get_or more 0 [] ≡ codes "--spur" → ⊥) → AllByRecursion ShortModule ks → IsModule (get_or rest 1 [])
module_follows [] [] rest more e spur no_more short = absurd (no_more (sym (ap (λ l. get_or l 0 []) e) ∙ spur))
module_follows [] (k ∷ ks) rest more e spur no_more short = (k, short.0, ap (λ l. get_or l 1 []) e)
module_follows (m ∷ ms) [] rest more e spur no_more short = absurd (no_more (sym (ap (λ l. get_or l 0 []) e)))
module_follows (m ∷ ms) (k ∷ ks) rest more e spur no_more short =
    module_follows ms ks rest more (ap (drop 2) e) spur no_more short.1

-- names are not options, and tell kinds apart
name_no_spur : (word : List ℕ) → NamesFabric word → word ≡ codes "--spur" → ⊥
name_no_spur word (inl e) spur = cc
name_no_spur word (inr (inl e)) spur = cc
name_no_spur word (inr (inr e)) spur = cc

fabric_named : (d : Description) (rest : List (List ℕ)) → NamesFabric (get_or (fabric_words d ++ rest) 0 [])
fabric_named (Line n) rest = inl refl
fabric_named (Tree parents) rest = inr (inl refl)
fabric_named (Listed file) rest = inr (inr refl)

fabric_cut : (d : Description) (rest : List (List ℕ)) → drop 2 (fabric_words d ++ rest) ≡ rest
fabric_cut (Line n) rest = refl
fabric_cut (Tree parents) rest = refl
fabric_cut (Listed file) rest = refl

fabric_long : (d : Description) (rest : List (List ℕ)) → length (fabric_words d ++ rest) ≡ 2 + length rest
fabric_long (Line n) rest = omega arith
fabric_long (Tree parents) rest = omega arith
fabric_long (Listed file) rest = omega arith

wanted : (d k : Description) (rest more : List (List ℕ)) → fabric_words d ++ rest ≡ fabric_words k ++ more → wants_pairs d ≡ true → wants_pairs k ≡ true
wanted d (Line n) rest more e wants = refl
wanted d (Tree parents) rest more e wants = refl
wanted (Line n) (Listed file) rest more e wants = grind arith
wanted (Tree parents) (Listed file) rest more e wants = grind arith
wanted (Listed other) (Listed file) rest more e wants = wants

number_of : (k : Description) (rest words : List (List ℕ)) → words ≡ fabric_words k ++ rest → Describes k → get_or words 0 [] ≡ codes "line" → IsNumber (get_or words 1 [])
number_of (Line n) rest words e describes name = search rules
number_of (Tree parents) rest words e describes name = grind arith
number_of (Listed file) rest words e describes name = grind arith

numbers_of : (k : Description) (rest words : List (List ℕ)) → words ≡ fabric_words k ++ rest → Describes k → get_or words 0 [] ≡ codes "tree" → IsNumbers (get_or words 1 [])
numbers_of (Line n) rest words e describes name = grind arith
numbers_of (Tree parents) rest words e describes name = search rules
numbers_of (Listed file) rest words e describes name = grind arith

pairs_long : (ps : List Pair) → length (pair_words ps) ≡ 2 * length ps
pairs_long [] = omega arith
pairs_long (p ∷ ps) = omega (arith, pairs_long ps)

pairs_numbers : (ps : List Pair) → AllByRecursion ShortPair ps → (i : ℕ) → i < length (pair_words ps) → IsNumber (get_or (pair_words ps) i [])
pairs_numbers [] short i within = absurd (omega arith)
pairs_numbers (p ∷ ps) short zero within = (p.source, short.0.0, refl)
pairs_numbers (p ∷ ps) short (suc zero) within = (p.destination, short.0.1, refl)
pairs_numbers (p ∷ ps) short (suc (suc i)) within = pairs_numbers ps short.1 i (omega arith)

module _ (ws : List (List ℕ)) where
  from_place : (at i : ℕ) → get_or (drop at ws) i [] ≡ get_or ws (at + i) []
  from_place at i = get_or-drop at ws i []

  at_place : (at : ℕ) → get_or (drop at ws) 0 [] ≡ get_or ws at []
  at_place at = from_place at 0 ∙ ap (λ n. get_or ws n []) (omega arith)

  module _ (ks : List Module) (k : Description) (qs : List Pair) (asks : Asks ws ks k qs) where
    -- the options are those that were read, and the fabric follows
    fabric_follows : (ms : List Module) (at : ℕ) → OptionsTo ws ms at → (get_or ws at [] ≡ codes "--spur" → ⊥) → drop at ws ≡ fabric_words k ++ pair_words qs
    fabric_follows ms at (short, place, before) none =
        options_same ms ks _ _ (sym before ∙ asks.spelled) (λ e. none (sym (at_place at) ∙ e)) (name_no_spur _ (fabric_named k _))

    -- the fabric is of the kind that was read, and the pairs follow
    pairs_follow : (d : Description) (at : ℕ) → FabricTo ws d at → (drop at ws ≡ pair_words qs) × (wants_pairs d ≡ true → wants_pairs k ≡ true)
    pairs_follow d at (ms, from, options, describes, place, before) =
        let name = ap (λ l. get_or l 0 []) before in
        let fabric = fabric_follows ms from options (λ e. name_no_spur _ (fabric_named d (drop at ws)) (sym name ∙ at_place from ∙ e)) in
        let same = sym before ∙ fabric in
        (sym (fabric_cut d (drop at ws)) ∙ ap (drop 2) same ∙ fabric_cut k (pair_words qs), wanted d k _ _ same)

    no_request : (e : Misuse) → TurnedAway ws e → (e ≡ NoMemory → ⊥) → ⊥
    no_request UnknownFabric (ms, at, options, none, unknown) memory =
        let fabric = fabric_follows ms at options none in
        unknown (subst NamesFabric (sym (ap (λ l. get_or l 0 []) fabric) ∙ at_place at) (fabric_named k (pair_words qs)))
    no_request NoDescription (ms, at, options, name, last) memory =
        let fabric = fabric_follows ms at options (name_no_spur _ name) in
        omega (arith, length-drop at ws, ap length fabric, fabric_long k (pair_words qs))
    no_request (NotAModule place) (ms, at, options, spur, next, none) memory =
        let found = module_follows ms ks _ _ (sym options.2 ∙ asks.spelled) (at_place at ∙ spur) (name_no_spur _ (fabric_named k _)) asks.modules in
        none (subst IsModule (from_place at 1 ∙ ap (λ n. get_or ws n []) (sym next)) found)
    no_request (NotNumbers place) (ms, at, options, name, next, within, none) memory =
        let fabric = fabric_follows ms at options (name_no_spur _ (inr (inl name))) in
        none (subst IsNumbers (from_place at 1 ∙ ap (λ n. get_or ws n []) (sym next)) (numbers_of k _ _ fabric asks.description (at_place at ∙ name)))
    no_request (NotANumber place) (within, none, inl (ms, at, options, name, next)) memory =
        let fabric = fabric_follows ms at options (name_no_spur _ (inl name)) in
        none (subst IsNumber (from_place at 1 ∙ ap (λ n. get_or ws n []) (sym next)) (number_of k _ _ fabric asks.description (at_place at ∙ name)))
    no_request (NotANumber place) (within, none, inr (d, ps, at, (from, fabric, short, long, before), where-it-is)) memory =
        let pairs = (pairs_follow d from fabric).0 in
        let after : from ≤ place = ⊎_elim (λ e. omega arith) (λ e. omega (arith, e.0)) where-it-is in
        let number = pairs_numbers qs asks.pairs (place - from) (omega (arith, length-drop from ws, ap length pairs)) in
        none (subst IsNumber (sym (ap (λ l. get_or l (place - from) []) pairs) ∙ from_place from (place - from) ∙ ap (λ n. get_or ws n []) (omega arith)) number)
    no_request Unpaired (d, ps, at, (from, fabric, short, long, before), inl (last, number)) memory =
        let pairs = (pairs_follow d from fabric).0 in
        omega (arith, length-drop from ws, ap length pairs, pairs_long qs)
    no_request Unpaired (d, ps, at, (from, fabric, short, long, before), inr (last, none, wants)) memory =
        let pairs = pairs_follow d from fabric in
        omega (arith, length-drop from ws, ap length pairs.0, pairs_long qs, ap length none, asks.some (pairs.1 wants))
    no_request NoMemory told memory = memory refl

  pub turned_away : (e : Misuse) → TurnedAway ws e → TurnedAway ws e × ((e ≡ NoMemory → ⊥) → AskNothing ws)
  turned_away e told = (told, λ memory ks k qs asks. no_request ks k qs asks e told memory)

  -- no pair is asked for where one is wanted
  pub no_pairs : (d : Description) (at : ℕ) (ps : List Pair) → FabricTo ws d at → drop at ws ≡ pair_words ps → length ps ≡ 0 → wants_pairs d ≡ true → TurnedAway ws Unpaired
  no_pairs d at ps (ms, from, options, describes, place, before) pairs none wants =
      let all : at ≡ length ws = omega (arith, length-drop at ws, ap length pairs, pairs_long ps, length-drop from ws, ap length before, fabric_long d (drop at ws)) in
      (d, [], at, (at, (ms, from, options, describes, place, before), tt, omega arith, refl), inr (all, refl, wants))

  -- all the words are read
  pub whole : (ms : List Module) (d : Description) (ps : List Pair) (at from : ℕ) → OptionsTo ws ms at → from ≡ at + 2 → FabricTo ws d from → AllByRecursion ShortPair ps → drop from ws ≡ pair_words ps → (wants_pairs d ≡ true → 1 ≤ length ps) → Asks ws ms d ps
  whole ms d ps at from (short, place, before) second (ks, start, options, describes, next, fabric) small pairs some =
      let same : at ≡ start = omega arith in record {
        spelled = before ∙ ap (λ l. module_words ms ++ l) (ap (λ n. drop n ws) same ∙ fabric ∙ ap (λ l. fabric_words d ++ l) pairs);
        modules = short;
        description = describes;
        pairs = small;
        some = some;
      }
