use Rattle.std.proofs.Common.{arith}
use Rattle.editing.proofs.Anywhere.{splices, room, number, words}
use Rattle.editing.proofs.splicing.edit.Goals as goal

pub plant-requires : goal.plant-requires
plant-requires c =
    let h = c.requires.given in
    record { offer = (h.1, h.2.offer); room = omega (arith, room h.2 c.if-path-eq0.true) }

pub returns-then-path-eq0 : goal.returns-then-path-eq0
returns-then-path-eq0 c =
    record {
      number = λ t u h. number h c.if-path-eq0.true;
      words = λ t u h. words h c.if-path-eq0.true _ (c.plant.ensures.words u h.offer);
      only = c.plant.ensures.only;
    }

pub splice-requires : goal.splice-requires
splice-requires c =
    let h = c.requires.given in
    record { apart = c.requires.apart; given = (h.0, h.1, splices h.2 c.if-path-eq0.false) }

pub returns : goal.returns
returns c =
    record {
      number = λ t u h. c.splice.ensures.number t u (splices h c.if-path-eq0.false);
      words = λ t u h. c.splice.ensures.words t u (splices h c.if-path-eq0.false);
      only = c.splice.ensures.only;
    }
