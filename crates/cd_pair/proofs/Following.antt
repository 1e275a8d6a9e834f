-- What may follow a configuration, as its compiled form says.
use Rattle.std.proofs.Common.{◌≡◌, Bool, true, false, Some, refl, ap, []}
use Rattle.cd_outside.specs.declared.address.Address.{Address}
use Rattle.cd_tree.specs.declared.tree.Tree.TheVariants as tree
use Rattle.cd_wire.specs.declared.request.Request.{Request}
use Rattle.cd_legal.specs.Serials.{is_halted}
use Rattle.cd_legal.specs.State.{Conf}
use Rattle.cd_legal.specs.declared.entry.Change.TheVariants as change
use Rattle.cd_module_set.specs.Acts.{DoAlike, conf_acts}
use Rattle.cd_module_set.specs.declared.target.Target.TheVariants as target
use Rattle.cd_life.specs.Fits.{Suits}
use Rattle.cd_fixed.specs.Fixed.{fixed_acts, fixed_change}
use Rattle.cd_pair.specs.Runs.{runs}

somewhere : Address
somewhere = record { host = []; port = 0 }

pub runs-is : (b : Bool) (conf : Conf) → DoAlike (fixed_acts b) (conf_acts (λ tree. fixed_acts true) conf) → b ≡ runs conf
runs-is true Conf.Opening alike = absurd (let h : target.Admin ≡ target.Nobody = alike.targets somewhere in cc)
runs-is true Conf.Halted alike = absurd (let h : target.Admin ≡ target.Nobody = alike.targets somewhere in cc)
runs-is true (Conf.Of before) alike = refl
runs-is false Conf.Opening alike = refl
runs-is false Conf.Halted alike = refl
runs-is false (Conf.Of before) alike = absurd (let h : target.Nobody ≡ target.Admin = alike.targets somewhere in cc)

pub by-request : (conf : Conf) (request : Request) (other : Bool) → runs conf ≡ true → request.close ≡ other → Suits fixed_change conf (change.Request request) (tree.Bool other)
by-request Conf.Opening request other running is = absurd (let h : false ≡ true = running in cc)
by-request Conf.Halted request other running is = absurd (let h : false ≡ true = running in cc)
by-request (Conf.Of before) request other running is = ap (λ (b : Bool). Some (tree.Bool b)) is

pub by-none : (conf : Conf) (other : Bool) → runs conf ≡ false → is_halted conf ≡ false → Suits fixed_change conf change.First (tree.Bool other)
by-none Conf.Opening other running free = tt
by-none Conf.Halted other running free = absurd (let h : true ≡ false = free in cc)
by-none (Conf.Of before) other running free = absurd (let h : true ≡ false = running in cc)
