-- The records of a forest from one of its nodes on.
use Rattle.std.proofs.Common.{◌≡◌, ℕ, suc, cond, T, List, [], ◌∷◌, sym, refl, ap, ◌∙◌}
use Rattle.model.specs.Trees.{Tree, missing, mark, node, Forest, empty, child, present, is_mark}
use Rattle.records.specs.declared.Entry.{Entry}
use Rattle.records.specs.Writing.{tell, tells}
use Rattle.stored.specs.Words.{below}
use Rattle.stored.proofs.Places.{kind}
use Rattle.stored.proofs.Forests.{join}
use Rattle.stored.proofs.Nodes.{from, alone, Nth}
use Rattle.transfer.specs.Moves.{record_of}

tells_join : (f g : Forest) (rest : List Entry) → tells (join f g) rest ≡ tells f (tells g rest)
tells_join empty g rest = refl
tells_join (child n t f) g rest = ap (tell t n) (tells_join f g rest)

pub kind_is : (t : Tree) → cond (is_mark t) 1 0 ≡ kind t
kind_is missing = refl
kind_is mark = refl
kind_is (node f) = refl

own_record : (t : Tree) (n : ℕ) (rest : List Entry) → T (present t) → tell t n rest ≡ record_of n t ∷ tells (below t) rest
own_record missing n rest p = absurd p
own_record mark n rest p = refl
own_record (node f) n rest p = refl

pub first_record : (n : ℕ) (t : Tree) (f : Forest) → T (present t) → tells (child n t f) [] ≡ record_of n t ∷ tells (join (below t) f) []
first_record n t f p = own_record t n (tells f []) p ∙ ap (λ l. record_of n t ∷ l) (sym (tells_join (below t) f []))

pub tell_alone : (t : Tree) → tell t 0 [] ≡ tells (alone t) []
tell_alone missing = refl
tell_alone mark = refl
tell_alone (node f) = refl

-- The record of node number j, and those behind it.
pub record_from : {t : Tree} {j : ℕ} (x : Nth t j) → tells (from j (alone t)) [] ≡ record_of x.name x.tree ∷ tells (from (suc j) (alone t)) []
record_from x =
    ap (λ f. tells f []) x.is
    ∙ first_record x.name x.tree x.more x.sound.0
    ∙ ap (λ f. record_of x.name x.tree ∷ tells f []) (sym x.next)
