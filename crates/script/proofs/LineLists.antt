-- Lines of a script: it is lines in one way, and a walk along its bytes 10 finds them.
use Rattle.std.proofs.Common.{◌≡◌, ℕ, ◌+◌, ◌-◌, ◌<◌, ◌≤◌, List, [], ◌∷◌, ◌++◌, length, drop, All, Some, None, Option, MatchOption, Bor, sym, refl, ap, ◌∙◌, subst, inl, inr, ⊎_elim, append_assoc, append-nil, length-append, length-drop, arith}
use Rattle.std.specs.List.{AllByRecursion}
use Rattle.std.specs.Option.{unwrap_or}
use Rattle.std.proofs.ByRecursion.{All-from_get_or}
use Rattle.std.proofs.lemmas.List.{drop_all, drop-drop, drop-append-le}
use Rattle.std.proofs.lemmas.Bool.{cases_eq}
use Rattle.script.specs.Lines.{Unbroken, ended, last_line, LinesOf, FirstLine, NextLine, LinesStand}

-- the stop is not among the bytes: byte 10 is that of a line
abbrev pub Free : ℕ → List ℕ → Type 0
Free stop bytes = AllByRecursion (λ byte. byte ≡ stop → ⊥) bytes

-- nothing, or a stop and more
abbrev pub Parted : ℕ → List ℕ → Type 0
Parted stop [] = Unit {0}
Parted stop (byte ∷ bytes) = byte ≡ stop

-- the bytes before the first stop are the same
pub cut_same : (stop : ℕ) (w v r s : List ℕ) → Free stop w → Free stop v → Parted stop r → Parted stop s → w ++ r ≡ v ++ s → (w ≡ v) × (r ≡ s)
cut_same stop [] [] r s fw fv pr ps e = (refl, e)
cut_same stop [] (b ∷ v) [] s fw fv pr ps e = let z : ◌≡◌ {A = ℕ} 0 1 = cc in absurd (omega arith)
cut_same stop [] (b ∷ v) (c ∷ r) s fw fv pr ps e = let same : c ≡ b = cc in absurd (fv.0 (sym same ∙ pr))
cut_same stop (a ∷ w) [] r [] fw fv pr ps e = let z : ◌≡◌ {A = ℕ} 0 1 = cc in absurd (omega arith)
cut_same stop (a ∷ w) [] r (c ∷ s) fw fv pr ps e = let same : a ≡ c = cc in absurd (fw.0 (same ∙ ps))
cut_same stop (a ∷ w) (b ∷ v) r s fw fv pr ps e =
    let first : a ≡ b = cc in
    let rest : w ++ r ≡ v ++ s = cc in
    let more = cut_same stop w v r s fw.1 fv.1 pr ps rest in
    ((λ i. first i ∷ more.0 i), more.1)

-- nothing is no line
no_bytes : (whole : List (List ℕ)) (rest : List ℕ) → [] ≡ ended whole ++ rest → (whole ≡ []) × (rest ≡ [])
no_bytes [] rest e = (refl, sym e)
no_bytes ([] ∷ whole) rest e = let z : ◌≡◌ {A = ℕ} 0 1 = cc in absurd (omega arith)
no_bytes ((byte ∷ line) ∷ whole) rest e = let z : ◌≡◌ {A = ℕ} 0 1 = cc in absurd (omega arith)

no_lines : (lines : List (List ℕ)) → LinesOf [] lines → lines ≡ []
no_lines lines is =
    let none = no_bytes is.whole is.rest is.bytes in
    is.all ∙ (λ i. none.0 i ++ last_line (none.1 i))

-- past the last byte there is none
pub none_left : (script : List ℕ) (from : ℕ) → length script ≤ from → LinesOf (drop from script) []
none_left script from past =
    record { whole = []; rest = []; each = tt; unbroken = tt; bytes = drop_all from script past; all = refl }

last_is : (line : List ℕ) → 1 ≤ length line → last_line line ≡ line ∷ []
last_is [] some = absurd (omega arith)
last_is (byte ∷ line) some = refl

first_ended : (line : List ℕ) (ls : List (List ℕ)) (rest : List ℕ) → ended (line ∷ ls) ++ rest ≡ line ++ (10 ∷ (ended ls ++ rest))
first_ended line ls rest = simp append_assoc

-- a line that is ended
pub one_more : (script line rest : List ℕ) → All (λ byte. byte ≡ 10 → ⊥) line → script ≡ line ++ 10 ∷ rest → FirstLine script line rest
one_more script line rest free same = record {
  shorter = omega (arith, ap length same, length-append line (10 ∷ rest));
  bytes = inl same;
  adds = λ lines is. record {
    whole = line ∷ is.whole;
    rest = is.rest;
    each = (All-from_get_or (λ byte. byte ≡ 10 → ⊥) line 0 (λ k inside. free k 0 inside), is.each);
    unbroken = is.unbroken;
    bytes = same ∙ ap (λ l. line ++ (10 ∷ l)) is.bytes ∙ sym (first_ended line is.whole is.rest);
    all = ap (λ ls. line ∷ ls) is.all;
  };
}

-- the last line, which is not
pub last : (script line : List ℕ) → All (λ byte. byte ≡ 10 → ⊥) line → script ≡ line → 1 ≤ length script → FirstLine script line []
last script line free same some = record {
  shorter = omega arith;
  bytes = inr (same, refl);
  adds = λ lines is. record {
    whole = [];
    rest = line;
    each = tt;
    unbroken = All-from_get_or (λ byte. byte ≡ 10 → ⊥) line 0 (λ k inside. free k 0 inside);
    bytes = same;
    all = ap (λ ls. line ∷ ls) (no_lines lines is) ∙ sym (last_is line (omega (arith, ap length same)));
  };
}

-- the part before the first byte 10, and what is after it, if anything
pub first_line : (script line : List ℕ) (after : Option (Bor (List ℕ))) (none : Bor (List ℕ)) → none.now ≡ [] → All (λ byte. byte ≡ 10 → ⊥) line → MatchOption after (script ≡ line) (λ rest. script ≡ line ++ 10 ∷ rest.now) → 1 ≤ length script → FirstLine script line (unwrap_or after none).now
first_line script line None none empty free same some = subst (FirstLine script line) (sym empty) (last script line free same some)
first_line script line (Some rest) none empty free same some = one_more script line rest.now free same

-- bytes end with what stands so far before their end
ends_with : (bytes front rest : List ℕ) (at : ℕ) → bytes ≡ front ++ rest → at + length rest ≡ length bytes → drop at bytes ≡ rest
ends_with bytes front rest at same place =
    let long = ap length same ∙ length-append front rest in
    ap (drop at) same ∙ drop-append-le at front rest (omega (arith, long)) ∙ ap (λ l. l ++ rest) (drop_all at front (omega (arith, long)))

module _ (script : List ℕ) (from : ℕ) (line rest : List ℕ) (next : ℕ) (inside : from ≤ length script) (place : next + length rest ≡ length script) (first : FirstLine (drop from script) line rest) where
  forward : from < next
  forward = omega (arith, first.shorter, length-drop from script)

  -- the next line begins where the rest does
  left_over : drop next script ≡ rest
  left_over =
      sym (drop-drop (next - from) from script ∙ ap (λ n. drop n script) (omega (arith, forward))) ∙ ends_with (drop from script) front rest (next - from) bytes (omega (arith, forward, length-drop from script))
    where
      cut : (front : List ℕ) × (drop from script ≡ front ++ rest)
      cut = ⊎_elim
          (λ stop. (line ++ 10 ∷ [], stop ∙ sym (append_assoc line (10 ∷ []) rest)))
          (λ end. (line, end.0 ∙ sym (append-nil line) ∙ ap (λ l. line ++ l) (sym end.1)))
          first.bytes

      front : List ℕ
      front = cut.0

      bytes : drop from script ≡ front ++ rest
      bytes = cut.1

  -- what begins at a place is told by the places, as by what is left there
  pub next_line : NextLine script from line next
  next_line = record {
    forward = forward;
    within = omega arith;
    adds = λ lines is. first.adds lines (subst (λ left. LinesOf left lines) left_over is);
  }

-- a byte before a script
abbrev Front : ℕ → List (List ℕ) → List ℕ → Type 0
Front byte whole rest = (w : List (List ℕ)) × (r : List ℕ) × AllByRecursion Unbroken w × Unbroken r × (byte ∷ (ended whole ++ rest) ≡ ended w ++ r)

front : (byte : ℕ) (whole : List (List ℕ)) (rest : List ℕ) → AllByRecursion Unbroken whole → Unbroken rest → Front byte whole rest
front byte whole rest each unbroken =
    ⊎_elim
    (λ stop. ([] ∷ whole, rest, (tt, each), unbroken, ap (λ b. b ∷ (ended whole ++ rest)) stop))
    (λ other. inside whole each other)
    (cases_eq byte 10)
  where
    inside : (ls : List (List ℕ)) → AllByRecursion Unbroken ls → (byte ≡ 10 → ⊥) → Front byte ls rest
    inside [] all other = ([], byte ∷ rest, tt, (other, unbroken), refl)
    inside (line ∷ ls) all other = ((byte ∷ line) ∷ ls, rest, ((other, all.0), all.1), unbroken, refl)

some_lines : (script : List ℕ) → (whole : List (List ℕ)) × (rest : List ℕ) × AllByRecursion Unbroken whole × Unbroken rest × (script ≡ ended whole ++ rest)
some_lines [] = ([], [], tt, tt, refl)
some_lines (byte ∷ script) =
    let more = some_lines script in
    let longer = front byte more.0 more.1 more.2 more.3 in
    (longer.0, longer.1, longer.2, longer.3, ap (λ l. byte ∷ l) more.4 ∙ longer.4)

ends_in : (line more rest : List ℕ) → Unbroken rest → rest ≡ line ++ (10 ∷ more) → ⊥
ends_in [] more [] unbroken e = let z : ◌≡◌ {A = ℕ} 0 1 = cc in omega arith
ends_in [] more (b ∷ rest) unbroken e = unbroken.0 (cc)
ends_in (a ∷ line) more [] unbroken e = let z : ◌≡◌ {A = ℕ} 0 1 = cc in omega arith
ends_in (a ∷ line) more (b ∷ rest) unbroken e = ends_in line more rest unbroken.1 (cc)

same_lines : (us vs : List (List ℕ)) (r s : List ℕ) → AllByRecursion Unbroken us → AllByRecursion Unbroken vs → Unbroken r → Unbroken s → ended us ++ r ≡ ended vs ++ s → (us ≡ vs) × (r ≡ s)
same_lines [] [] r s all-us all-vs ur us' e = (refl, e)
same_lines [] (v ∷ vs) r s all-us all-vs ur us' e = absurd (ends_in v (ended vs ++ s) r ur (e ∙ first_ended v vs s))
same_lines (u ∷ us) [] r s all-us all-vs ur us' e = absurd (ends_in u (ended us ++ r) s us' (sym e ∙ first_ended u us r))
same_lines (u ∷ us) (v ∷ vs) r s all-us all-vs ur us' e =
    let cut = cut_same 10 u v (10 ∷ (ended us ++ r)) (10 ∷ (ended vs ++ s)) all-us.0 all-vs.0 refl refl (sym (first_ended u us r) ∙ e ∙ first_ended v vs s) in
    let tail : ended us ++ r ≡ ended vs ++ s = ap (drop 1) cut.1 in
    let more = same_lines us vs r s all-us.1 all-vs.1 ur us' tail in
    ((λ i. cut.0 i ∷ more.0 i), more.1)

pub stand : LinesStand
stand script =
    let some = some_lines script in (
      some.0 ++ last_line some.1,
      record { whole = some.0; rest = some.1; each = some.2; unbroken = some.3; bytes = some.4; all = refl },
      λ others is.
          let same = same_lines is.whole some.0 is.rest some.1 is.each some.2 is.unbroken some.3 (sym is.bytes ∙ some.4) in
          is.all ∙ (λ i. same.0 i ++ last_line (same.1 i)),
    )
