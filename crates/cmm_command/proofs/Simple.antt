-- The commands of clap are simple: what they make of words is a function.
use Rattle.std.proofs.Common.{◌≡◌, sym, subst, true, refl}
use Rattle.clap.specs.Words.{App, is_simple_and_free}
use Rattle.clap.proofs.OnLiterals.{clap_on_literals}
use Rattle.cmm_command.specs.Options.{build_app, elf_app, exec_app, generate_app, migrate_app, run_app, segments_app, walk_app}

build_is_simple : is_simple_and_free build_app ≡ true
unfolding clap_on_literals build_app
build_is_simple = refl

run_is_simple : is_simple_and_free run_app ≡ true
unfolding clap_on_literals run_app
run_is_simple = refl

exec_is_simple : is_simple_and_free exec_app ≡ true
unfolding clap_on_literals exec_app
exec_is_simple = refl

walk_is_simple : is_simple_and_free walk_app ≡ true
unfolding clap_on_literals walk_app
walk_is_simple = refl

generate_is_simple : is_simple_and_free generate_app ≡ true
unfolding clap_on_literals generate_app
generate_is_simple = refl

elf_is_simple : is_simple_and_free elf_app ≡ true
unfolding clap_on_literals elf_app
elf_is_simple = refl

migrate_is_simple : is_simple_and_free migrate_app ≡ true
unfolding clap_on_literals migrate_app
migrate_is_simple = refl

segments_is_simple : is_simple_and_free segments_app ≡ true
unfolding clap_on_literals segments_app
segments_is_simple = refl

same : (made app : App) → made ≡ app → is_simple_and_free app ≡ true → is_simple_and_free made ≡ true
same made app is simple = subst (λ (a : App). is_simple_and_free a ≡ true) (sym is) simple

pub build_simple : (made : App) → made ≡ build_app → is_simple_and_free made ≡ true
build_simple made is = same made build_app is build_is_simple

pub run_simple : (made : App) → made ≡ run_app → is_simple_and_free made ≡ true
run_simple made is = same made run_app is run_is_simple

pub exec_simple : (made : App) → made ≡ exec_app → is_simple_and_free made ≡ true
exec_simple made is = same made exec_app is exec_is_simple

pub walk_simple : (made : App) → made ≡ walk_app → is_simple_and_free made ≡ true
walk_simple made is = same made walk_app is walk_is_simple

pub generate_simple : (made : App) → made ≡ generate_app → is_simple_and_free made ≡ true
generate_simple made is = same made generate_app is generate_is_simple

pub elf_simple : (made : App) → made ≡ elf_app → is_simple_and_free made ≡ true
elf_simple made is = same made elf_app is elf_is_simple

pub migrate_simple : (made : App) → made ≡ migrate_app → is_simple_and_free made ≡ true
migrate_simple made is = same made migrate_app is migrate_is_simple

pub segments_simple : (made : App) → made ≡ segments_app → is_simple_and_free made ≡ true
segments_simple made is = same made segments_app is segments_is_simple
