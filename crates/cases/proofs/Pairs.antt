-- Hexadecimal digits, read and written. Assumes nothing.
use Rattle.std.proofs.Common.{◌≡◌, ℕ, zero, suc, ◌+◌, ◌*◌, ◌/◌, ◌%◌, ◌<◌, ◌⊎◌, List, [], ◌∷◌, ◌++◌, length, get_or, take, drop, Some, None, Option, Err, sym, refl, ap, ◌∙◌, subst, inl, inr, ⊎_elim, append_assoc, append-nil, length-append, le_of_suc-le-suc, arith}
use Rattle.std.specs.List.{AllByRecursion, concat}
use Rattle.std.specs.Option.{ok_or}
use Rattle.std.specs.Simd.{first_chunks}
use Rattle.std.proofs.lemmas.Bool.Decides.{nat_tests}
use Rattle.std.proofs.lemmas.Grind.{flat_map-append}
use Rattle.std.proofs.lemmas.List.{at_drop_more, drop-drop, get_or-append-add, take-append-drop}
use Rattle.cases.specs.declared.fault.Fault.{Fault}
use Rattle.cases.specs.declared.fault.Fault.TheVariants.{NoHexadecimal}
use Rattle.cases.specs.Hex.{digit_of, byte_of, digit, digits, written, spelled, Illegible, Faulty}

-- a digit that is written has a value
read_back : (v : ℕ) → v < 16 → digit_of (digit v) ≡ None → ⊥
read_back v lt h = grind (arith, nat_tests)

byte_written : (h l b : ℕ) → byte_of (digit_of h) (digit_of l) ≡ Some b → (digit (b / 16) ≡ h) × (digit (b % 16) ≡ l)
byte_written h l b is = grind (arith, nat_tests)

no_byte : (h l : ℕ) → byte_of (digit_of h) (digit_of l) ≡ None → (digit_of h ≡ None) ⊎ (digit_of l ≡ None)
no_byte h l is = grind (arith, nat_tests)

-- What can't be read is written by no bytes.
length_written : (bs : List ℕ) → length (written bs) ≡ 2 * length bs
length_written [] = refl
length_written (b ∷ bs) = let h = length_written bs in omega arith

written_digits : (bs : List ℕ) → AllByRecursion (λ (b : ℕ). b < 256) bs → (k : ℕ) → k < length (written bs) → digit_of (get_or (written bs) k 0) ≡ None → ⊥
written_digits [] bytes k lt h = omega arith
written_digits (b ∷ bs) bytes zero lt h = let small = bytes.0 in read_back (b / 16) (omega arith) h
written_digits (b ∷ bs) bytes (suc zero) lt h = read_back (b % 16) (omega arith) h
written_digits (b ∷ bs) bytes (suc (suc k)) lt h = written_digits bs bytes.1 k (le_of_suc-le-suc (le_of_suc-le-suc lt)) h

spelled_length : (bs field : List ℕ) → spelled bs ≡ field → ((length field ≡ 1) × (bs ≡ [])) ⊎ ((written bs ≡ field) × (0 < length bs))
spelled_length [] field is = inl (sym (ap length is), refl)
spelled_length (b ∷ bs) field is = inr (is, omega arith)

pub illegible_odd : (field : List ℕ) → length field % 2 ≡ 1 → (field ≡ 45 ∷ [] → ⊥) → Illegible field
illegible_odd field odd not bs bytes is =
    ⊎_elim
    (λ hyphen. not (sym is ∙ ap spelled hyphen.1))
    (λ filled. let n = length_written bs in let m = ap length filled.0 in omega arith)
    (spelled_length bs field is)

illegible_at : (field : List ℕ) (k : ℕ) → length field % 2 ≡ 0 → k < length field → digit_of (get_or field k 0) ≡ None → Illegible field
illegible_at field k even lt h bs bytes is =
    ⊎_elim
    (λ hyphen. let one = hyphen.0 in omega arith)
    (λ filled. let m = ap length filled.0 in
    written_digits bs bytes k (omega arith) (subst (λ (w : List ℕ). digit_of (get_or w k 0) ≡ None) (sym filled.0) h))
    (spelled_length bs field is)

-- The loop over the pairs: those that were read are what the bytes write.
pair_is : (pair : List ℕ) → length pair ≡ 2 → pair ≡ get_or pair 0 0 ∷ get_or pair 1 0 ∷ []
pair_is [] two = absurd (omega arith)
pair_is (h ∷ []) two = absurd (omega arith)
pair_is (h ∷ (l ∷ [])) two = refl
pair_is (h ∷ (l ∷ (d ∷ ds))) two = absurd (omega arith)

abbrev pub Paired : List (List ℕ) → Type 0
Paired pairs = (i : ℕ) → i < length pairs → length (get_or pairs i []) ≡ 2

-- the pairs from i on
pairs_at : (pairs : List (List ℕ)) (i : ℕ) → i < length pairs → length (get_or pairs i []) ≡ 2 → concat (drop i pairs) ≡ get_or (get_or pairs i []) 0 0 ∷ get_or (get_or pairs i []) 1 0 ∷ concat (drop (i + 1) pairs)
pairs_at pairs i lt two = at_drop_more concat pairs i [] lt ∙ ap (λ pair. pair ++ concat (drop (i + 1) pairs)) (pair_is (get_or pairs i []) two)

pub pair_more : (pairs : List (List ℕ)) (bytes : List ℕ) (i b : ℕ) → i < length pairs → length (get_or pairs i []) ≡ 2 → byte_of (digit_of (get_or (get_or pairs i []) 0 0)) (digit_of (get_or (get_or pairs i []) 1 0)) ≡ Some b → written bytes ++ concat (drop i pairs) ≡ concat pairs → written (bytes ++ b ∷ []) ++ concat (drop (i + 1) pairs) ≡ concat pairs
pair_more pairs bytes i b lt two is read =
    let pair = get_or pairs i [] in
    let both = byte_written (get_or pair 0 0) (get_or pair 1 0) b is in
    let rest = concat (drop (i + 1) pairs) in
    ap (λ w. w ++ rest) (flat_map-append digits bytes (b ∷ []))
    ∙ append_assoc (written bytes) (digits b) rest
    ∙ ap (λ c. written bytes ++ c ∷ digit (b % 16) ∷ rest) both.0
    ∙ ap (λ c. written bytes ++ get_or pair 0 0 ∷ c ∷ rest) both.1
    ∙ ap (λ w. written bytes ++ w) (sym (pairs_at pairs i lt two))
    ∙ read

length-pairs : (pairs : List (List ℕ)) → Paired pairs → length (concat pairs) ≡ 2 * length pairs
length-pairs [] two = refl
length-pairs (pair ∷ pairs) two =
    let here = two 0 (omega arith) in
    let rest = length-pairs pairs (λ i lt. two (suc i) (omega arith)) in
    omega (arith, length-append pair (concat pairs))

no_pair : (pairs : List (List ℕ)) (bytes : List ℕ) (i : ℕ) → i < length pairs → Paired pairs → byte_of (digit_of (get_or (get_or pairs i []) 0 0)) (digit_of (get_or (get_or pairs i []) 1 0)) ≡ None → written bytes ++ concat (drop i pairs) ≡ concat pairs → Faulty NoHexadecimal (concat pairs)
no_pair pairs bytes i lt two is read =
    let pair = get_or pairs i [] in
    let done = written bytes in
    let rest = concat (drop (i + 1) pairs) in
    let whole : done ++ (get_or pair 0 0 ∷ get_or pair 1 0 ∷ rest) ≡ concat pairs = ap (λ w. done ++ w) (sym (pairs_at pairs i lt (two i lt))) ∙ read in
    let even = length-pairs pairs two in
    let long = length-append done (get_or pair 0 0 ∷ get_or pair 1 0 ∷ rest) in
    let longer = ap length whole in
    ⊎_elim
    (λ (high : digit_of (get_or pair 0 0) ≡ None). no_digit (concat pairs) (length done + 0) (omega arith) (omega arith) (rw (← whole, get_or-append-add done (get_or pair 0 0 ∷ get_or pair 1 0 ∷ rest) 0 0) high))
    (λ low. no_digit (concat pairs) (length done + 1) (omega arith) (omega arith) (rw (← whole, get_or-append-add done (get_or pair 0 0 ∷ get_or pair 1 0 ∷ rest) 1 0) low))
    (no_byte (get_or pair 0 0) (get_or pair 1 0) is)
  where
    no_digit : (field : List ℕ) (k : ℕ) → length field % 2 ≡ 0 → k < length field → digit_of (get_or field k 0) ≡ None → Faulty NoHexadecimal field
    no_digit field k even lt none = ((k, lt, none), illegible_at field k even lt none)

-- a pair that is refused
pub refused_pair : (pairs : List (List ℕ)) (bytes : List ℕ) (i : ℕ) (o : Option ℕ) (x : Fault) → i < length pairs → Paired pairs → o ≡ byte_of (digit_of (get_or (get_or pairs i []) 0 0)) (digit_of (get_or (get_or pairs i []) 1 0)) → ok_or o NoHexadecimal ≡ Err x → written bytes ++ concat (drop i pairs) ≡ concat pairs → Faulty x (concat pairs)
refused_pair pairs bytes i (Some b) x lt two byte is read = cc
refused_pair pairs bytes i None x lt two byte is read =
    let blamed : x ≡ NoHexadecimal = cc in
    rw blamed (no_pair pairs bytes i lt two (sym byte) read)

-- a field of pairs, with what is left over
chunks_join : (k : ℕ) (field : List ℕ) → concat (first_chunks 2 k field) ++ drop (k * 2) field ≡ field
chunks_join zero field = refl
chunks_join (suc k) field =
    let twice : 2 + k * 2 ≡ suc k * 2 = omega arith in
    append_assoc (take 2 field) (concat (first_chunks 2 k (drop 2 field))) (drop (suc k * 2) field)
    ∙ ap (λ n. take 2 field ++ (concat (first_chunks 2 k (drop 2 field)) ++ drop n field)) (sym twice)
    ∙ ap (λ w. take 2 field ++ (concat (first_chunks 2 k (drop 2 field)) ++ w)) (sym (drop-drop (k * 2) 2 field))
    ∙ ap (λ w. take 2 field ++ w) (chunks_join k (drop 2 field))
    ∙ take-append-drop 2 field

-- a field with nothing left over is its pairs
pub pairs_join : (k : ℕ) (field : List ℕ) (pairs : List (List ℕ)) (rest : List ℕ) → pairs ≡ first_chunks 2 k field → rest ≡ drop (k * 2) field → length rest ≡ 0 → concat pairs ≡ field
pairs_join k field pairs rest front back none =
    sym (append-nil (concat pairs))
    ∙ ap (λ w. concat pairs ++ w) (sym (empty rest none))
    ∙ ap (λ w. concat pairs ++ w) back
    ∙ ap (λ ps. concat ps ++ drop (k * 2) field) front
    ∙ chunks_join k field
  where
    empty : (ds : List ℕ) → length ds ≡ 0 → ds ≡ []
    empty [] none = refl
    empty (d ∷ ds) none = absurd (omega arith)

pub spelled_filled : (field bs : List ℕ) → 0 < length field → written bs ≡ field → spelled bs ≡ field
spelled_filled field [] lt is = let e = ap length is in absurd (omega arith)
spelled_filled field (b ∷ bs) lt is = is
