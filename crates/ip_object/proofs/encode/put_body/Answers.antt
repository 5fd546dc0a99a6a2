use Rattle.std.proofs.Common.{◌^◌, ◌<◌, sym, subst}
use Rattle.ip_spec.specs.Record.{IsInode, FieldsFit, bitmap}
use Rattle.ip_spec.proofs.ReadingExact.{bitmap_small}
use Rattle.ip_object.proofs.encode.put_body.Goals as goal

pub bitmap_of-requires-clause-small : goal.bitmap_of-requires-clause-small
bitmap_of-requires-clause-small g c =
    let fits : IsInode c.in-Inode.depth c.in-Inode.children = subst (FieldsFit g.version) c.in-Inode.is c.requires.fields in
    subst (λ cs. bitmap cs < 2 ^ 32) (sym c.as_slice-in-Inode.ensures) (bitmap_small c.in-Inode.depth c.in-Inode.children fits)
