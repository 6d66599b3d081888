-- What roots and queue reach: it is in use, marking finds it, it stands against rings, and no call frees it.
pub mod Used
pub mod Marked
pub mod Graph
pub mod Safe
