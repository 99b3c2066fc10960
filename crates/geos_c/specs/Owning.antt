-- What a handle owns: where it is open, a box with that value.
use Rattle.std.specs.Prelude.{Bool, true, false, []}
use base.Fml.{Fml, ftrue}
use denote.RattleType.{RattleType}
use mir.Syntax.{Dict, impl, tnil, dnil}
use denote.RawPtr.{Ptr}
use Rattle.std.specs.declared.alloc.Global.{Global}
use Rattle.std.specs.contracts.impls.GlobalAllocator.TheImpl.{ghosts}
use Rattle.std_alloc.specs.Box.Ownership.{box_owns}
use Rattle.host_store.specs.contracts.host.HostStore as stores
use Rattle.host_store.specs.contracts.host.HostStoreStore.TheImpl as stores_impl
use Rattle.geos_c.specs.contracts.channel.ChannelFile as files
use Rattle.geos_c.specs.contracts.channel.ChannelFileSystemFile.TheImpl as files_impl
use Rattle.c_sessions.specs.contracts.kept.Kept as kept

-- the allocator, of which there is one
abbrev pub only_allocator : Global
only_allocator = record { memory = record { seal = tt } }

-- A session that is kept, in a file of the program's. What is known of its store doesn't depend on the code of the
-- calls on files, so any stands for that.
abbrev no_code : Dict
no_code = impl [] tnil dnil

abbrev pub kept_row : RattleType
kept_row = kept.the_row (stores.the_row files.the_row files_impl.ghosts)
    (stores_impl.ghosts files.the_row files_impl.ghosts no_code no_code)

abbrev pub held : (R : RattleType) → Bool → Ptr → R.Denot → Fml
held R true p x = box_owns (ghosts.dealloc_token only_allocator) R p x
held R false p x = ftrue
