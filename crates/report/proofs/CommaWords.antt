-- Numbers parted by commas: cut at the commas they are the numbers' own words.
use Rattle.std.proofs.Common.{◌≡◌, ◌==◌, ℕ, zero, suc, ◌<◌, false, List, [], ◌∷◌, ◌++◌, length, map, get_or, decimal, sym, refl, ap, ◌∙◌, append-nil, arith, length-append}
use Rattle.std.specs.List.{All, AllByRecursion, slice_split, join_with_byte}
use Rattle.std.proofs.lemmas.Bool.{ne_eqb}
use Rattle.std.proofs.lemmas.Fmt.{digits_decimal}
use Rattle.std.proofs.lemmas.List.{get_or_at, get_or_default}
use Rattle.std.proofs.lemmas.List.Elements.{All-from_get_or}
use Rattle.std.proofs.lemmas.List.Splits.{slice_split_none, slice_split_at, length-slice_split, join_with_byte-slice_split}
use Rattle.std.proofs.lemmas.Str.Parse.{digit_at}
use Rattle.decimals.proofs.NumberWords.{own}
use Rattle.report.specs.Spelled.{commas, Short, Numbers, IsNumber, IsNumbers}

pub no_comma : (n : ℕ) → Short n → (i : ℕ) → i < length (decimal n) → get_or (decimal n) i 0 ≡ 44 → ⊥
no_comma n small i inside e =
    omega (arith, (digit_at (decimal n) i (digits_decimal own n (omega arith)) inside).0, e)

-- a comma stands where it was written
pub comma_in : (bs xs ys : List ℕ) → bs ≡ xs ++ (44 ∷ ys) → ((i : ℕ) → i < length bs → get_or bs i 0 ≡ 44 → ⊥) → ⊥
comma_in bs xs ys e none =
    none (length xs) (omega (arith, ap length e, length-append xs (44 ∷ ys))) (ap (λ l. get_or l (length xs) 0) e ∙ get_or_at xs 44 ys 0 (length xs) refl)

-- the parts between the commas
abbrev pub parts : List ℕ → List (List ℕ)
parts word = slice_split (λ b. b == 44) word

one_part : (n : ℕ) → Short n → All (λ b. (b == 44) ≡ false) (decimal n)
one_part n small =
    All-from_get_or (λ b. (b == 44) ≡ false) (decimal n) 0 (λ i inside. ne_eqb _ _ (no_comma n small i inside))

parts_of : (n : ℕ) (ns : List ℕ) → AllByRecursion Short (n ∷ ns) → parts (commas (n ∷ ns)) ≡ map decimal (n ∷ ns)
parts_of n [] short =
    ap parts (append-nil (decimal n)) ∙ slice_split_none _ (decimal n) (one_part n short.0)
parts_of n (m ∷ ns) short =
    slice_split_at _ (decimal n) 44 (commas (m ∷ ns)) (one_part n short.0) refl ∙ ap (λ l. decimal n ∷ l) (parts_of m ns short.1)

number_at : (ns : List ℕ) → AllByRecursion Short ns → (i : ℕ) → i < length (map decimal ns) → IsNumber (get_or (map decimal ns) i [])
number_at [] short i inside = absurd (omega arith)
number_at (n ∷ ns) short zero inside = (n, short.0, refl)
number_at (n ∷ ns) short (suc i) inside = number_at ns short.1 i (omega arith)

-- each part of a word that spells numbers spells a number
pub part_number : (word part : List ℕ) (i : ℕ) → IsNumbers word → i < length (parts word) → part ≡ get_or (parts word) i part → IsNumber part
part_number word part i ([], (some, short), e) inside is = absurd (omega arith)
part_number word part i (n ∷ ns, (some, short), e) inside is =
    let cut : parts word ≡ map decimal (n ∷ ns) = ap parts e ∙ parts_of n ns short in
    let number = number_at (n ∷ ns) short i (omega (arith, inside, ap length cut)) in
    (number.0, number.1, is ∙ get_or_default (parts word) i part [] inside ∙ ap (λ l. get_or l i []) cut ∙ number.2)

joined : (n : ℕ) (ns : List ℕ) → join_with_byte 44 (map decimal (n ∷ ns)) ≡ commas (n ∷ ns)
joined n [] = sym (append-nil (decimal n))
joined n (m ∷ ns) = ap (λ l. decimal n ++ (44 ∷ l)) (joined m ns)

-- a word whose parts spell numbers spells them
pub all_parts : (word ns : List ℕ) → AllByRecursion Short ns → parts word ≡ map decimal ns → Numbers ns × (word ≡ commas ns)
all_parts word [] short cut =
    absurd (omega (arith, length-slice_split (λ b. b == 44) word, ap length cut))
all_parts word (n ∷ ns) short cut = (
  (omega arith, short),
  sym (join_with_byte-slice_split 44 word) ∙ ap (join_with_byte 44) cut ∙ joined n ns,
)
