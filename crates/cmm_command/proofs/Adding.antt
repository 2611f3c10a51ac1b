-- A command of clap with one more argument.
use Rattle.std.proofs.Common.{◌≡◌, ◌∙◌, ap, ap₂, false, refl, subst, Result, Ok, Err}
use Rattle.std.specs.Result.{IfOk}
use Rattle.clap.specs.Words.{AddsArg, App, Rule, app_of, rule_of, with_rule}
use Rattle.clap.specs.declared.builder.arg.Arg.{Arg}
use Rattle.clap.specs.declared.builder.command.Command.{Command}

pub adds : (old new : Command) (a : Arg) (app : App) (rule : Rule) → AddsArg old a new → a.global ≡ false → rule_of a ≡ rule → app_of old ≡ app
    → app_of new ≡ with_rule app rule
adds old new a app rule added own is was = added.shape own ∙ ap₂ with_rule was is

-- what may fail adds it to the command that was
pub adds_last : {E : Type 0} (old : Command) (a : Arg) (rule : Rule) (r : Result Command E) → IfOk r (λ new. AddsArg old a new) → a.global ≡ false → rule_of a ≡ rule
    → IfOk r (λ made. app_of made ≡ with_rule (app_of old) rule)
adds_last old a rule (Ok new) added own is = adds old new a (app_of old) rule added own is refl
adds_last old a rule (Err e) added own is = tt

-- a command with one more argument than another
pub more : (made was app : App) (rule : Rule) → made ≡ with_rule was rule → was ≡ app → made ≡ with_rule app rule
more made was app rule is same = is ∙ ap (λ (a : App). with_rule a rule) same

-- what may fail gives the same command by another name of it
pub by_another : {E : Type 0} (r : Result Command E) (app other : App) → IfOk r (λ made. app_of made ≡ app) → app ≡ other → IfOk r (λ made. app_of made ≡ other)
by_another r app other is same = subst (λ (a : App). IfOk r (λ made. app_of made ≡ a)) same is

-- the same of a command with one more argument than another
pub more_last : {E : Type 0} (r : Result Command E) (was app : App) (rule : Rule) → IfOk r (λ made. app_of made ≡ with_rule was rule) → was ≡ app
    → IfOk r (λ made. app_of made ≡ with_rule app rule)
more_last r was app rule is same = by_another r (with_rule was rule) (with_rule app rule) is (ap (λ (a : App). with_rule a rule) same)
