-- Numbers and records in bytes, and back.
use Rattle.std.proofs.Common.{◌≡◌, ℕ, zero, suc, ◌+◌, ◌*◌, ◌/◌, ◌%◌, ◌^◌, ◌<◌, ◌≤◌, List, [], ◌∷◌, length, get_or, drop, sym, refl, ap, ◌∙◌, arith, length-drop, get_or-drop, drop-drop}
use Rattle.std.proofs.lemmas.List.{drop_more}
use Rattle.records.specs.declared.Entry.{Entry}
use Rattle.records.specs.Bytes.{two_bytes, four_bytes, entry_at, entries, put_entry, put_all}

pub length_entries : (m : ℕ) (bs : List ℕ) (at : ℕ) → length (entries m bs at) ≡ m
length_entries zero bs at = refl
length_entries (suc m) bs at = ap suc (length_entries m bs (at + 8))

pub two_back : (n : ℕ) → n < 65536 → 256 * (n / 256 % 256) + n % 256 ≡ n
two_back n h = omega arith

pub four_back : (n : ℕ) → n < 2 ^ 32 → 65536 * (256 * (n / 65536 / 256 % 256) + n / 65536 % 256) + (256 * (n % 65536 / 256 % 256) + n % 65536 % 256) ≡ n
four_back n h = omega arith

pub two_high : (a b : ℕ) → a < 256 → b < 256 → (256 * a + b) / 256 % 256 ≡ a
two_high a b p q = omega arith

pub two_low : (a b : ℕ) → a < 256 → b < 256 → (256 * a + b) % 256 ≡ b
two_low a b p q = omega arith

-- A byte, by its place behind an offset.
byte : (bs : List ℕ) (at i j : ℕ) (l : List ℕ) → drop at bs ≡ l → j ≡ at + i → get_or bs j 0 ≡ get_or l i 0
byte bs at i j l e p = ap (λ k. get_or bs k 0) p ∙ sym (get_or-drop at bs i 0) ∙ ap (λ x. get_or x i 0) e

-- Eight bytes that hold a record.
pub record Eight (bs : List ℕ) (at : ℕ) (e : Entry) (rest : List ℕ) : Type 0 where
  pub is : entry_at bs at ≡ e
  pub after : drop (at + 8) bs ≡ rest
  pub room : at + 8 + length rest ≡ length bs

pub decode : (bs : List ℕ) (at : ℕ) (e : Entry) (rest : List ℕ) → drop at bs ≡ put_entry e rest → e.name < 2 ^ 32 → e.children < 65536 → Eight bs at e rest
decode bs at e rest h p q =
    let l = put_entry e rest in
    let b0 = byte bs at 0 at l h (omega arith) in
    let b1 = byte bs at 1 (at + 1) l h (omega arith) in
    let b2 = byte bs at 2 (at + 2) l h (omega arith) in
    let b3 = byte bs at 3 (at + 2 + 1) l h (omega arith) in
    let b4 = byte bs at 4 (at + 4) l h (omega arith) in
    let b5 = byte bs at 5 (at + 4 + 1) l h (omega arith) in
    let b6 = byte bs at 6 (at + 6) l h (omega arith) in
    let b7 = byte bs at 7 (at + 7) l h (omega arith) in
    let n : four_bytes bs at ≡ e.name = omega (arith, four_back e.name p) in
    let c : two_bytes bs (at + 4) ≡ e.children = omega (arith, two_back e.children q) in
    record {
      is = λ i. record { name = n i; children = c i; kind = b6 i; last = b7 i };
      after = sym (drop-drop 8 at bs) ∙ ap (drop 8) h;
      room = omega (arith, length-drop at bs, ap length h);
    }

abbrev pub Small : List Entry → Type 0
Small [] = Unit {0}
Small (e ∷ es) = (e.name < 2 ^ 32) × (e.children < 65536) × Small es

pub decode_all : (es : List Entry) (bs : List ℕ) (at : ℕ) (rest : List ℕ) → drop at bs ≡ put_all es rest → Small es → entries (length es) bs at ≡ es
decode_all [] bs at rest h s = refl
decode_all (e ∷ es) bs at rest h s =
    let d = decode bs at e (put_all es rest) h s.0 s.1 in
    ap (λ x. x ∷ entries (length es) bs (at + 8)) d.is ∙ ap (λ l. e ∷ l) (decode_all es bs (at + 8) rest d.after s.2)

pub length_put : (es : List Entry) (rest : List ℕ) → length (put_all es rest) ≡ 8 * length es + length rest
length_put [] rest = omega arith
length_put (e ∷ es) rest = omega (arith, length_put es rest)

pub behind_put : (es : List Entry) (rest : List ℕ) → drop (8 * length es) (put_all es rest) ≡ rest
behind_put [] rest = refl
behind_put (e ∷ es) rest =
    let p : 8 * suc (length es) ≡ 8 + 8 * length es = omega arith in
    ap (λ k. drop k (put_entry e (put_all es rest))) p ∙ sym (drop-drop (8 * length es) 8 (put_entry e (put_all es rest))) ∙ behind_put es rest

list_eight : (a b c d e f g h a' b' c' d' e' f' : ℕ) (l : List ℕ) → a ≡ a' → b ≡ b' → c ≡ c' → d ≡ d' → e ≡ e' → f ≡ f'
    → a ∷ b ∷ c ∷ d ∷ e ∷ f ∷ g ∷ h ∷ l ≡ a' ∷ b' ∷ c' ∷ d' ∷ e' ∷ f' ∷ g ∷ h ∷ l
list_eight a b c d e f g h a' b' c' d' e' f' l p q r s t u = cc

next_byte : (bs : List ℕ) (j k : ℕ) → j < length bs → k ≡ j + 1 → drop j bs ≡ get_or bs j 0 ∷ drop k bs
next_byte bs j k l e = drop_more bs j 0 l ∙ ap (λ i. get_or bs j 0 ∷ drop i bs) (sym e)

eight : (bs : List ℕ) (at : ℕ) → at + 8 ≤ length bs
    → drop at bs ≡ get_or bs at 0 ∷ get_or bs (at + 1) 0 ∷ get_or bs (at + 2) 0 ∷ get_or bs (at + 2 + 1) 0 ∷ get_or bs (at + 4) 0 ∷ get_or bs (at + 4 + 1) 0 ∷ get_or bs (at + 6) 0 ∷ get_or bs (at + 7) 0 ∷ drop (at + 8) bs
eight bs at l =
    let b0 = next_byte bs at (at + 1) (omega arith) (omega arith) in
    let b1 = next_byte bs (at + 1) (at + 2) (omega arith) (omega arith) in
    let b2 = next_byte bs (at + 2) (at + 2 + 1) (omega arith) (omega arith) in
    let b3 = next_byte bs (at + 2 + 1) (at + 4) (omega arith) (omega arith) in
    let b4 = next_byte bs (at + 4) (at + 4 + 1) (omega arith) (omega arith) in
    let b5 = next_byte bs (at + 4 + 1) (at + 6) (omega arith) (omega arith) in
    let b6 = next_byte bs (at + 6) (at + 7) (omega arith) (omega arith) in
    let b7 = next_byte bs (at + 7) (at + 8) (omega arith) (omega arith) in
    cc

-- Four bytes, from their number.
four_a : (a b c d : ℕ) → a < 256 → b < 256 → c < 256 → d < 256 → (65536 * (256 * a + b) + (256 * c + d)) / 65536 / 256 % 256 ≡ a
four_a a b c d p q r s = omega arith

four_b : (a b c d : ℕ) → a < 256 → b < 256 → c < 256 → d < 256 → (65536 * (256 * a + b) + (256 * c + d)) / 65536 % 256 ≡ b
four_b a b c d p q r s = omega arith

four_c : (a b c d : ℕ) → a < 256 → b < 256 → c < 256 → d < 256 → (65536 * (256 * a + b) + (256 * c + d)) % 65536 / 256 % 256 ≡ c
four_c a b c d p q r s = omega arith

four_d : (a b c d : ℕ) → a < 256 → b < 256 → c < 256 → d < 256 → (65536 * (256 * a + b) + (256 * c + d)) % 65536 % 256 ≡ d
four_d a b c d p q r s = omega arith

pub encode : (bs : List ℕ) (at : ℕ) → ((i : ℕ) → get_or bs i 0 < 256) → at + 8 ≤ length bs → drop at bs ≡ put_entry (entry_at bs at) (drop (at + 8) bs)
encode bs at s l =
    let a = get_or bs at 0 in
    let b = get_or bs (at + 1) 0 in
    let c = get_or bs (at + 2) 0 in
    let d = get_or bs (at + 2 + 1) 0 in
    let e = get_or bs (at + 4) 0 in
    let f = get_or bs (at + 4 + 1) 0 in
    eight bs at l
    ∙ list_eight a b c d e f (get_or bs (at + 6) 0) (get_or bs (at + 7) 0) _ _ _ _ _ _ (drop (at + 8) bs)
    (sym (four_a a b c d (s at) (s (at + 1)) (s (at + 2)) (s (at + 2 + 1)))) (sym (four_b a b c d (s at) (s (at + 1)) (s (at + 2)) (s (at + 2 + 1))))
    (sym (four_c a b c d (s at) (s (at + 1)) (s (at + 2)) (s (at + 2 + 1)))) (sym (four_d a b c d (s at) (s (at + 1)) (s (at + 2)) (s (at + 2 + 1))))
    (sym (two_high e f (s (at + 4)) (s (at + 4 + 1)))) (sym (two_low e f (s (at + 4)) (s (at + 4 + 1))))

pub encode_all : (n : ℕ) (bs : List ℕ) (at end : ℕ) → ((i : ℕ) → get_or bs i 0 < 256) → at + 8 * n ≡ end → end ≤ length bs → drop at bs ≡ put_all (entries n bs at) (drop end bs)
encode_all zero bs at end s e l = ap (λ k. drop k bs) (omega arith)
encode_all (suc n) bs at end s e l =
    encode bs at s (omega arith) ∙ ap (put_entry (entry_at bs at)) (encode_all n bs (at + 8) end s (omega arith) l)
