use Rattle.std.proofs.Common.{arith}
use Rattle.stored.proofs.Lookup.{between_children}
use Rattle.editing.proofs.Carried.{near, few}
use Rattle.editing.proofs.gathering.gather.Goals as goal

pub overflow_add-at : goal.overflow_add-at
overflow_add-at c = omega (arith, near _ _ c.requires.stands.1)

pub list-requires : goal.list-requires
list-requires c =
    let h = c.requires.stands.1 in
    record {
      trees = c.requires.trees;
      row = (_, between_children h (c.next-end.ensures _ h));
      room = omega (arith, few _ _ c.requires.trees h, c.next-end.ensures _ h);
    }

pub returns : goal.returns
returns c =
    record {
      many = λ s h. omega (arith, c.list.ensures.many _ (between_children h (c.next-end.ensures s h)));
      front = λ s h. c.list.ensures.front _ (between_children h (c.next-end.ensures s h));
      only = c.list.ensures.only;
    }
