-- What is written of a tree is read back as that tree.
use Rattle.std.proofs.Common.{◌≡◌, ℕ, ◌+◌, ◌-◌, ◌*◌, Bool, true, false, cond, ◌||◌, leb, List, ◌++◌, length, take, drop, Ok, Err, Result, sym, refl, ap, ◌∙◌, arith}
use Rattle.std.proofs.lemmas.List.{take_at}
use Rattle.model.specs.Trees.{Tree as TheTree, present, nodes, marks}
use Rattle.model.specs.Round.{Outcome}
use Rattle.refusals.specs.declared.Refusal.{Refusal}
use Rattle.refusals.specs.declared.Reason.TheVariants.{Output}
use Rattle.refusals.specs.declared.Whose.TheVariants.{Nobody}
use Rattle.refusals.specs.Numbers.{refused}
use Rattle.refusals.specs.Output as output
use Rattle.records.specs.declared.TreeKind.{TreeKind}
use Rattle.records.specs.declared.TreeKind.TheVariants.{Copy}
use Rattle.records.specs.Reading.{says, may_miss}
use Rattle.records.specs.Writing.{written}
use Rattle.records.proofs.Fits.{written_is_read}
use Rattle.stored.specs.Decoding.{whole_tree}
use Rattle.stored.specs.Own.{OwnedWhole}
use Rattle.transfer.proofs.Writing.{size_of}
use Rattle.area.specs.declared.types.Area.{Area}
use Rattle.tables.specs.declared.Table.{Table}
use Rattle.tables.specs.declared.Table.TheVariants.{Archive, Field, Bench}
use Rattle.area.specs.declared.regions.Region.{Region}
use Rattle.merging.specs.Tables.{Sizes}
use Rattle.service.specs.Keeping.{Kept}
use Rattle.service.specs.Service.{pick, kind_of, wanted_of}
use Rattle.service.proofs.Chains.{not_both, same_ok}

-- No mark stands in a copy.
abbrev pub Unmarked : Outcome → Type 0
Unmarked s = (t : Table) → kind_of t ≡ Copy → marks (pick t s) ≡ 0

pub kept_unmarked : {a : Area} {place : Table → Region} {n : Sizes} {s : Outcome} → Kept a place n s → Unmarked s
kept_unmarked h Archive e = let z : ◌≡◌ {A = ℕ} 0 1 = cc in absurd (omega arith)
kept_unmarked h Field e = h.field_unmarked
kept_unmarked h Bench e = h.bench_unmarked

-- A load wants the kind that is written, with the root on level 0, and the tree may be missing.
wants_kind : (t : Table) → (wanted_of t).kind ≡ kind_of t
wants_kind Archive = refl
wants_kind Field = refl
wants_kind Bench = refl

wants_top : (t : Table) → (wanted_of t).depth ≡ 0
wants_top Archive = refl
wants_top Field = refl
wants_top Bench = refl

may_be_missing : (t : Table) (u : TheTree) → (may_miss (wanted_of t).whose || present u) ≡ true
may_be_missing Archive u = refl
may_be_missing Field u = refl
may_be_missing Bench u = refl

-- The output begins with the bytes that were written.
begins_with : (bs old : List ℕ) (n : ℕ) → output.told bs old ≡ Ok n → take n (output.left bs old) ≡ bs
begins_with bs old n = go (leb (length bs) (length old))
  where
    go : (b : Bool) → cond b (Ok (length bs)) (Err (refused Output Nobody (length bs))) ≡ Ok n → take n (cond b (bs ++ drop (length bs) old) old) ≡ bs
    go true e = take_at bs _ n (same_ok e)
    go false e = not_both (sym e)

-- Where a tree was written, the bytes are read as that tree.
pub read_back : (t : Table) {s : Outcome} {ws : List ℕ} → OwnedWhole ws → whole_tree ws ≡ pick t s → Unmarked s
    → {k : TreeKind} → k ≡ kind_of t → (old : List ℕ) {new : List ℕ} {r : Result ℕ Refusal} → r ≡ output.told (written (whole_tree ws) k) old
    → new ≡ output.left (written (whole_tree ws) k) old → (n : ℕ) → r ≡ Ok n → says (take n new) (wanted_of t) ≡ Ok (pick t s)
read_back t {s} {ws} h same unmarked {k} is_kind old answer after n e =
    let u = whole_tree ws in
    let bs = written u k in
    let long : length bs ≡ 8 * nodes u + 8 = size_of u k refl in
    let start : length bs - (8 * nodes u + 8) ≡ 0 = omega arith in
    ap (λ l. says l (wanted_of t)) (ap (take n) after ∙ begins_with bs old n (sym answer ∙ e))
    ∙ written_is_read bs (wanted_of t) u
    record {
      well_formed = h.well_formed;
      stands = may_be_missing t u;
      shallow = λ p. omega (arith, wants_top t, h.shallow);
      few = h.few;
      narrow = h.names;
      unmarked = λ c. ap marks same ∙ unmarked t (sym (wants_kind t) ∙ c);
    }
    record { long = omega arith; file = ap (λ i. drop i bs) start ∙ ap (written u) (is_kind ∙ sym (wants_kind t)) }
    ∙ ap Ok same
