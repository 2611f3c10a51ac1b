use Rattle.std.proofs.Common.{◌∙◌, inr, sym, arith}
use Rattle.cmm_effects.proofs.Shared.{adds_none, adds_weaker}
use Rattle.cmm_select.proofs.InPlace.{home_is, located_home}
use Rattle.cmm_select.proofs.in_place.locate.Goals as goal

pub returns-in-Some-clause-locates : goal.returns-in-Some-clause-locates
returns-in-Some-clause-locates c =
    adds_weaker (adds_none c.args.asm.now.parts) (omega arith)
    (λ x from to same. located_home c.args.from.now c.args.spare c.in-Some.register x from to (sym c.home_of.ensures ∙ c.in-Some.is) same)

pub returns-in-Some-clause-home : goal.returns-in-Some-clause-home
returns-in-Some-clause-home c =
    inr (home_is c.args.asm.now.labels c.args.from.now c.in-Some.register c.requires.operand (sym c.home_of.ensures ∙ c.in-Some.is))

pub returns-in-Some-clause-register : goal.returns-in-Some-clause-register
returns-in-Some-clause-register c =
    (home_is c.args.asm.now.labels c.args.from.now c.in-Some.register c.requires.operand (sym c.home_of.ensures ∙ c.in-Some.is)).1
